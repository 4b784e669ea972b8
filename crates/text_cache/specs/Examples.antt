-- Small caches, for examples.
use Rattle.std.specs.Prelude.{ℕ, [], ◌∷◌, codes}
use Rattle.text_cache.specs.declared.cache.CacheLimits.{CacheLimits}
use Rattle.text_cache.specs.TextCaches.{TextCacheOf}

-- two texts, of five bytes together
abbrev pub two_limits : CacheLimits
two_limits = record { texts = 2; bytes = 5 }

-- three texts, of six bytes together
abbrev pub three_limits : CacheLimits
three_limits = record { texts = 3; bytes = 6 }

-- the texts `ab` and `abc`, with numbers as their values
abbrev pub two_texts : TextCacheOf ℕ
two_texts = record { entries = (codes "ab", 1) ∷ (codes "abc", 2) ∷ []; limits = two_limits }
