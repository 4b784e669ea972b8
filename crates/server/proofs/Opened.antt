-- Loaders of lines, one more at a time.
use Rattle.std.proofs.Common.{◌≡◌, ℕ, List, [], ◌∷◌, ◌++◌, length, suc, refl, ap, subst, Option, All}
use Rattle.std.proofs.lemmas.List.Elements.{All-nil, All-cons}
use denote.Ref.{Bor}
use denote.Param.Members.{Called, Mut}
use Rattle.load_queue.specs.Loaders.{LoaderOf}
use Rattle.gq_bindings.specs.Tree as bindings
use Rattle.gq_bindings.specs.Seen.{loader_of}
use Rattle.gq_bindings.specs.declared.binding.LoaderLine.{LoaderLine}
use Rattle.server.specs.Opening.{AreOpened, new_loader}

module _ {S F : Type 0} (g : Mut F (Bor LoaderLine × Unit {0}) S) (limit : Option ℕ) where
  -- the loaders are opened, and the calls have left f as h
  abbrev pub OpenedTo : F → List bindings.LoaderOf → List (LoaderOf S) → F → Type 0
  OpenedTo f [] [] h = h ≡ f
  OpenedTo f [] (l ∷ ls) h = ⊥
  OpenedTo f (line ∷ lines) [] h = ⊥
  OpenedTo f (line ∷ lines) (l ∷ ls) h = (shown : Bor LoaderLine) × (source : S) × (later : F) × (loader_of shown.now ≡ line)
      × Called g f (shown, tt) source later × (l ≡ new_loader l.identity limit line source) × OpenedTo later lines ls h

  pub opened-more : (lines : List bindings.LoaderOf) (ls : List (LoaderOf S)) (f h k : F) (shown : Bor LoaderLine) (source : S) (l : LoaderOf S) → OpenedTo f lines ls h → Called g h (shown, tt) source k
      → l ≡ new_loader l.identity limit (loader_of shown.now) source → OpenedTo f (lines ++ loader_of shown.now ∷ []) (ls ++ l ∷ []) k
  opened-more [] [] f h k shown source l e call is = (shown, source, k, refl, subst (λ x. Called g x (shown, tt) source k) e call, is, refl)
  opened-more [] (m ∷ ms) f h k shown source l done call is = absurd done
  opened-more (x ∷ xs) [] f h k shown source l done call is = absurd done
  opened-more (x ∷ xs) (m ∷ ms) f h k shown source l (s, o, later, e, c, i, rest) call is = (s, o, later, e, c, i, opened-more xs ms later h k shown source l rest call is)

  pub opened-all : (lines : List bindings.LoaderOf) (ls : List (LoaderOf S)) (f h : F) → OpenedTo f lines ls h → AreOpened g f limit lines ls
  opened-all [] [] f h done = tt
  opened-all [] (l ∷ ls) f h done = absurd done
  opened-all (x ∷ xs) [] f h done = absurd done
  opened-all (x ∷ xs) (l ∷ ls) f h (s, o, later, e, c, i, rest) = (s, o, later, e, c, i, opened-all xs ls later h rest)

  pub opened-many : (lines : List bindings.LoaderOf) (ls : List (LoaderOf S)) (f h : F) → OpenedTo f lines ls h → length ls ≡ length lines
  opened-many [] [] f h done = refl
  opened-many [] (l ∷ ls) f h done = absurd done
  opened-many (x ∷ xs) [] f h done = absurd done
  opened-many (x ∷ xs) (l ∷ ls) f h (s, o, later, e, c, i, rest) = ap suc (opened-many xs ls later h rest)

  pub opened-quiet : (lines : List bindings.LoaderOf) (ls : List (LoaderOf S)) (f h : F) → OpenedTo f lines ls h → All (λ (l : LoaderOf S). l.log ≡ []) ls
  opened-quiet [] [] f h done = All-nil (λ (l : LoaderOf S). l.log ≡ [])
  opened-quiet [] (l ∷ ls) f h done = absurd done
  opened-quiet (x ∷ xs) [] f h done = absurd done
  opened-quiet (x ∷ xs) (l ∷ ls) f h (s, o, later, e, c, i, rest) =
      All-cons (λ (l : LoaderOf S). l.log ≡ []) l ls (ap (λ (m : LoaderOf S). m.log) i) (opened-quiet xs ls later h rest)
