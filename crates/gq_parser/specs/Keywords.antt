-- The names that mean something where the grammar has them as words.
use Rattle.std.specs.Prelude.{ℕ, List, codes, if◌then◌else◌}
use Rattle.std.specs.Str.{bytes_eq}
use Rattle.gq_parser.specs.declared.keyword.Keyword.{Keyword}
use Rattle.gq_parser.specs.declared.keyword.Keyword.TheVariants.{Query, Mutation, Subscription, Fragment, On, True, False, Null, Other}

-- gives what a name is where a word is wanted
unfoldable pub keyword_of : List ℕ → Keyword
keyword_of name =
    if bytes_eq name (codes "query") then Query
    else if bytes_eq name (codes "mutation") then Mutation
    else if bytes_eq name (codes "subscription") then Subscription
    else if bytes_eq name (codes "fragment") then Fragment
    else if bytes_eq name (codes "on") then On
    else if bytes_eq name (codes "true") then True
    else if bytes_eq name (codes "false") then False
    else if bytes_eq name (codes "null") then Null
    else Other

-- a name that a fragment may have: any but `on`
abbrev pub IsFragmentName : Keyword → Type 0
IsFragmentName On = ⊥
IsFragmentName _ = Unit {0}

-- a name that an enum's value may have: any but `true`, `false` and `null`
abbrev pub IsEnumName : Keyword → Type 0
IsEnumName True = ⊥
IsEnumName False = ⊥
IsEnumName Null = ⊥
IsEnumName _ = Unit {0}
