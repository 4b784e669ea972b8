-- Steps of the loops over lines.
use Rattle.std.proofs.Common.{subst, inl, inr, ne_eqb, cond, ◌≡◌, ◌≢◌, ◌⊎◌, ℕ, ◌+◌, ◌<◌, ◌≤◌, List, [], ◌∷◌, ◌++◌, length, take, refl, sym, ap, ◌∙◌, append_assoc, append-nil, arith, length-append}
use Rattle.std.specs.Prelude.{Option, Some, None, Result, Ok, Err, IfOk, IfErr, OnOk, String, string_bytes}
use Rattle.std.specs.Fn.{CalledAt}
use denote.Param.Members.{Mut}
use denote.Ref.{Bor}
use Rattle.std.specs.declared.alloc.Global.{Global}
use Rattle.std.specs.Io.KnownBytes.{Appends, Consumes, Keeps, IsAtEnd}
use Rattle.std.specs.List.{All, flat_map}
use Rattle.std.proofs.lemmas.List.{flat_map_more}
use Rattle.std.proofs.lemmas.Grind.{common_steps}
use Rattle.std.proofs.lemmas.List.Concat.{flat_map-append}
use Rattle.std.proofs.lemmas.List.Elements.{All-nil, All-cons, All-head, All-tail, All-append, All-push}
use Rattle.server_lines.specs.Answering.{AnsweringOf, AreAnswers, FrontOf, IsNext, IsStopped, MayStop, Stops, StopsNext, WithAnswer, WithAnswers, by_calls}
use Rattle.server_lines.specs.Lines.{HasNoLineFeed, IsLine, Splits, ended, line_feed, limit, input_lines, last_of, on_first}
use Rattle.server_lines.specs.Output.{Sends, IsCut}
use Rattle.server_lines.specs.Devices.{CountsOf, DevicesOf, HasFault, IsFlushed, IsReadOut, IsSteady, IsStuck, counts_of, device_of, devices}
use Rattle.server_lines.specs.declared.device.CountedDevice.{CountedDevice}
use Rattle.std.specs.Global.{Vec}
use Rattle.server_lines.specs.Serving.{block_size, IsGiven, IsUnanswered, StartsLong, AtFault, Stopped, IsAnswered, Fails, ReadsAll, ReaderCounts, StopsAt, WriterCounts, EndsServing, had_failed, closed, was_cut, HasGrown, IsBounded, Serves}
use Rattle.server_lines.specs.declared.fault.ServeFault.{ServeFault}
use Rattle.server_lines.specs.declared.fault.ServeFault.TheVariants as fault
use Rattle.server_lines.specs.declared.fault.LineFault.{LineFault}
use Rattle.server_lines.specs.declared.fault.LineFault.TheVariants as at
use Rattle.server_lines.proofs.Known.{sends_kept, consumes_none, consumes_trans, sends_same, sends_trans, cut_sends, cut_same, same_text, appends_trans, cut_after, steady_trans, fault_after}

pub is_line : (held line : List ℕ) → IsLine held → HasNoLineFeed line → length (held ++ line) ≤ limit → IsLine (held ++ line)
is_line held line h k short = record { one = All-append (λ b. b ≢ line_feed) held line h.one k; short = short }

pub one_more : (text held line after rest : List ℕ) (lines : List (List ℕ)) → rest ≡ line ++ line_feed ∷ after → text ≡ flat_map ended lines ++ (held ++ rest)
    → text ≡ flat_map ended (lines ++ (held ++ line) ∷ []) ++ after
one_more text held line after rest lines cut whole =
    whole
    ∙ ap (λ l. flat_map ended lines ++ (held ++ l)) cut
    ∙ ap (λ l. flat_map ended lines ++ l) (sym (append_assoc held line (line_feed ∷ after)))
    ∙ ap (λ l. flat_map ended lines ++ l) (sym (append_assoc (held ++ line) (line_feed ∷ []) after))
    ∙ sym (append_assoc (flat_map ended lines) (ended (held ++ line)) after)
    ∙ ap (λ l. l ++ after) (flat_map_more ended [] lines (held ++ line))

pub sends_nothing : (a b c : Option (List ℕ)) (p q r xs : List ℕ) → Sends a p b q xs → Sends b q c r [] → Sends a p c r xs
sends_nothing a b c p q r xs h k = sends_same a c p r _ _ (sends_trans a b c p q r _ _ h k) (append-nil xs)

-- the held part of a line, and the rest of a block
pub behind : (held rest : List ℕ) → IsLine held → length rest ≤ block_size → IsUnanswered (held ++ rest)
behind held rest is few = record { front = held; block = rest; whole = refl; one = is.one; few = few }

pub behind_line : (line : List ℕ) → IsLine line → IsUnanswered line
behind_line line is = record { front = line; block = []; whole = sym (append-nil line); one = is.one; few = omega arith }

pub count_more : (n : ℕ) (lines : List (List ℕ)) (line : List ℕ) → n ≡ length lines → n + 1 ≡ length (lines ++ line ∷ [])
count_more n lines line e = omega (arith, length-append lines (line ∷ []), e)

pub no_line : IsLine []
no_line = record { one = All-nil (λ b. b ≢ line_feed); short = omega arith }

lines_of_line : (line rest : List ℕ) → HasNoLineFeed line → input_lines (ended line ++ rest) ≡ line ∷ input_lines rest
lines_of_line [] rest h = refl
lines_of_line (b ∷ bs) rest h =
    ap (λ t. cond t ([] ∷ input_lines (ended bs ++ rest)) (on_first b (input_lines (ended bs ++ rest)))) (ne_eqb b line_feed (All-head (λ x. x ≢ line_feed) b bs h))
    ∙ ap (on_first b) (lines_of_line bs rest (All-tail (λ x. x ≢ line_feed) b bs h))

lines_of_last : (last : List ℕ) → HasNoLineFeed last → input_lines last ≡ last_of last
lines_of_last [] h = refl
lines_of_last (b ∷ bs) h =
    ap (λ t. cond t ([] ∷ input_lines bs) (on_first b (input_lines bs))) (ne_eqb b line_feed (All-head (λ x. x ≢ line_feed) b bs h))
    ∙ ap (on_first b) (lines_of_last bs (All-tail (λ x. x ≢ line_feed) b bs h)) ∙ joined bs
  where
    joined : (bs : List ℕ) → on_first b (last_of bs) ≡ (b ∷ bs) ∷ []
    joined [] = refl
    joined (c ∷ cs) = refl

-- the lines of whole lines and a last one
pub lines_split : (lines : List (List ℕ)) (last : List ℕ) → All IsLine lines → HasNoLineFeed last → input_lines (flat_map ended lines ++ last) ≡ lines ++ last_of last
lines_split [] last h k = lines_of_last last k
lines_split (line ∷ lines) last h k =
    ap input_lines (append_assoc (ended line) (flat_map ended lines) last)
    ∙ lines_of_line line (flat_map ended lines ++ last) (All-head IsLine line lines h).one
    ∙ ap (λ l. line ∷ l) (lines_split lines last (All-tail IsLine line lines h) k)

last_each : (last : List ℕ) → IsLine last → All IsLine (last_of last)
last_each [] h = All-nil IsLine
last_each (b ∷ bs) h = All-cons IsLine (b ∷ bs) [] h (All-nil IsLine)

pub one_last : (last : List ℕ) → (length last ≡ 0 → ⊥) → 1 ≡ length (last_of last)
one_last [] some = absurd (some refl)
one_last (b ∷ bs) some = refl

-- a text with a line feed isn't a line
feed_in : (xs after : List ℕ) → HasNoLineFeed (xs ++ line_feed ∷ after) → ⊥
feed_in [] after h = All-head (λ b. b ≢ line_feed) line_feed after h refl
feed_in (x ∷ xs) after h = feed_in xs after (All-tail (λ b. b ≢ line_feed) x (xs ++ line_feed ∷ after) h)

-- the held part and the front of a block up to its line feed are the next line
next_line : (held line after rest : List ℕ) (AtEnd : Type 0) → rest ≡ line ++ line_feed ∷ after → IsLine held → HasNoLineFeed line → length (held ++ line) ≤ limit
    → IsNext (held ++ rest) (held ++ line) AtEnd
next_line held line after rest AtEnd cut is one short = record {
  first = (input_lines after, ap input_lines (whole ∙ sym (append_assoc (held ++ line) (line_feed ∷ []) after)) ∙ lines_of_line (held ++ line) after (All-append (λ b. b ≢ line_feed) held line is.one one));
  whole = λ none. absurd (feed_in (held ++ line) after (subst HasNoLineFeed whole none));
  short = short;
}
  where
    whole : held ++ rest ≡ (held ++ line) ++ line_feed ∷ after
    whole = ap (λ l. held ++ l) cut ∙ sym (append_assoc held line (line_feed ∷ after))

-- and so is the last line at the end of the input
next_last : (last : List ℕ) (AtEnd : Type 0) → IsLine last → last ≢ [] → AtEnd → IsNext last last AtEnd
next_last last AtEnd is some end = record { first = ([], lines_of_last last is.one ∙ one last some); whole = λ _. end; short = is.short }
  where
    one : (last : List ℕ) → last ≢ [] → last_of last ≡ last ∷ []
    one [] h = absurd (h refl)
    one (b ∷ bs) h = refl

-- nothing more is pending
pub sends_close : (a b c : Option (List ℕ)) (p xs : List ℕ) → Sends a [] b p xs → Appends b c p → Appends a c xs
sends_close a b c p xs (g, h) k = same_text a c (g ++ p) xs (appends_trans a b c g p h.went k) h.left

pub cut_close : (a b c : Option (List ℕ)) (p xs : List ℕ) → Sends a [] b p xs → IsCut b c p → IsCut a c xs
cut_close a b c p xs (g, h) k = cut_same a c (g ++ p) xs (cut_after a b c g p h.went k) h.left

pub consumes_start : (a : Option (List ℕ)) (held : List ℕ) → held ≡ [] → Consumes a a held
consumes_start a held e = subst (λ t. Consumes a a t) (sym e) (consumes_none a)

pub consumes_keeps : (a b c : Option (List ℕ)) (text : List ℕ) → Consumes a b text → Keeps b c → Consumes a c text
consumes_keeps None b c text h k = tt
consumes_keeps (Some xs) None c text h k = absurd h
consumes_keeps (Some xs) (Some ys) None text h k = absurd k
consumes_keeps (Some xs) (Some ys) (Some zs) text h k = h ∙ ap (λ l. text ++ l) (sym k)

pub consumes_nothing : (a b c : Option (List ℕ)) (text blk : List ℕ) (n : ℕ) → n ≡ 0 → Consumes a b text → Consumes b c (take n blk) → Consumes a c text
consumes_nothing a b c text blk n e h k =
    subst (λ t. Consumes a c t) (append-nil text) (consumes_trans a b c text [] h (subst (λ m. Consumes b c (take m blk)) e k))

pub consumes_more : (a b c : Option (List ℕ)) (front held x : List ℕ) → Consumes a b (front ++ held) → Consumes b c x → Consumes a c (front ++ (held ++ x))
consumes_more a b c front held x h k = subst (λ t. Consumes a c t) (append_assoc front held x) (consumes_trans a b c (front ++ held) x h k)

joined : (lines more : List (List ℕ)) (text held : List ℕ) → Splits text more held → flat_map ended lines ++ text ≡ flat_map ended (lines ++ more) ++ held
joined lines more text held s =
    ap (λ l. flat_map ended lines ++ l) s.whole ∙ sym (append_assoc (flat_map ended lines) (flat_map ended more) held) ∙ ap (λ l. l ++ held) (sym (flat_map-append ended lines more))

pub sends_sent : (a c : Option (List ℕ)) (p xs : List ℕ) → p ≡ [] → Appends a c xs → Sends a [] c p xs
sends_sent a c p xs e h = (xs, record { went = h; left = ap (λ l. xs ++ l) e ∙ append-nil xs })

pub count_both : (m n k : ℕ) (lines more : List (List ℕ)) → m ≡ length lines → n ≡ length more → k ≡ m + n → k ≡ length (lines ++ more)
count_both m n k lines more e f h = omega (arith, length-append lines more, e, f, h)

pub consumes_lines : (a b c : Option (List ℕ)) (lines more : List (List ℕ)) (held x later : List ℕ) → Consumes a b (flat_map ended lines ++ held) → Consumes b c x → Splits (held ++ x) more later
    → Consumes a c (flat_map ended (lines ++ more) ++ later)
consumes_lines a b c lines more held x later h k s = subst (λ t. Consumes a c t) (joined lines more (held ++ x) later s) (consumes_more a b c (flat_map ended lines) held x h k)

-- a block has no more lines than bytes
pub count_given : (m more g h n : ℕ) (blk : List ℕ) → m ≤ g → more ≤ length (take n blk) → h ≡ g + n → m + more ≤ h
count_given m more g h n blk was few e = grind (arith, common_steps, was, few, e)

-- what was counted of the reader and the writer while lines were served
pub record CountsServing {T : Type 0} (reader_old reader_new writer_old writer_new : CountsOf) (result : Result T ServeFault) : Type 0 where
  pub reader : ReaderCounts reader_old reader_new result
  pub writer : WriterCounts writer_old writer_new result
  pub bounded : OnOk result (IsBounded reader_new)
  pub grown : HasGrown reader_old reader_new

abbrev pub IsNoWriteFault : ServeFault → Type 0
IsNoWriteFault e = AtFault e (Unit {0}) (Unit {0}) ⊥ (λ _. Unit {0})

-- what is counted of the writer at a fault that isn't its own
abbrev Steady : DevicesOf → Type 0
Steady d = IsSteady d.writer_old d.writer_new

abbrev Stuck : DevicesOf → Type 0
Stuck d = HasFault IsStuck d.writer_old d.writer_new

at_other : (e : ServeFault) (P W Q V : Type 0) → (e ≡ fault.WriteFault → ⊥) → AtFault e P P W (λ _. P) → (P → Q) → AtFault e Q Q V (λ _. Q)
at_other fault.WriteFault P W Q V other h k = absurd (other refl)
at_other fault.BadCount P W Q V other h k = absurd h
at_other e P W Q V other h k = k h

steady_at : (e : ServeFault) (P W : Type 0) → (e ≡ fault.WriteFault → ⊥) → AtFault e P P W (λ _. P) → P
steady_at fault.WriteFault P W other h = absurd (other refl)
steady_at fault.BadCount P W other h = absurd h
steady_at e P W other h = h

any_read : (e : ServeFault) (P Q : Type 0) → AtFault e P Q (P ⊎ Q) (λ _. P) → P ⊎ Q
any_read fault.ReadFault P Q h = inr h
any_read fault.WriteFault P Q h = h
any_read fault.BadCount P Q h = absurd h
any_read e P Q h = inl h

-- what is counted of the writer from an earlier place on
pub writes_later : {T : Type 0} (a b c : CountsOf) (r : Result T ServeFault) → IsSteady a b → WriterCounts b c r → WriterCounts a c r
writes_later a b c (Ok x) steady h = steady_trans steady h
writes_later a b c (Err fault.WriteFault) steady h = fault_after IsStuck steady h
writes_later a b c (Err fault.BadCount) steady h = absurd h
writes_later a b c (Err e) steady h = steady_trans steady h

-- what is counted of the reader at a fault that isn't its own
pub reads_later : (e : ServeFault) (a b : CountsOf) (P Q R : Type 0) (V : LineFault → Type 0) → IsSteady a b → (Q → ⊥) → AtFault e P Q R V → AtFault e (IsSteady a b) (HasFault IsReadOut a b) (IsSteady a b ⊎ HasFault IsReadOut a b) (λ _. IsSteady a b)
reads_later fault.ReadFault a b P Q R V steady other h = absurd (other h)
reads_later fault.WriteFault a b P Q R V steady other h = inl steady
reads_later fault.BadCount a b P Q R V steady other h = absurd h
reads_later e a b P Q R V steady other h = steady

-- what a call gave answers its line
module _ {F : Type 0} (m : Mut F (Bor (List ℕ) × Unit {0}) (Result (String Global) LineFault)) where
  pub gives_called : (f g : F) (line : List ℕ) (given : Result (String Global) LineFault) (P : List ℕ → Type 0) → CalledAt m f line given g → IsGiven given P → WithAnswer (by_calls m) f line g P
  gives_called f g line (Ok text) P called h = (string_bytes text, record { given = text; called = called; bytes = refl }, h)
  gives_called f g line (Err e) P called h = absurd h

  pub fails_called : (e : ServeFault) (f g : F) (line : List ℕ) (given : Result (String Global) LineFault) (Cut : List ℕ → Type 0) (Kept : Type 0) → CalledAt m f line given g
      → AtFault e ⊥ ⊥ (IsGiven given Cut) (λ k. (given ≡ Err k) × Kept) → AtFault e ⊥ ⊥ (WithAnswer (by_calls m) f line g Cut) (λ k. Stops m k f line g × Kept)
  fails_called fault.WriteFault f g line given Cut Kept called h = gives_called f g line given Cut called h
  fails_called fault.NoMemory f g line given Cut Kept called (is, kept) = (subst (λ r. CalledAt m f line r g) is called, kept)
  fails_called fault.TraceFault f g line given Cut Kept called (is, kept) = (subst (λ r. CalledAt m f line r g) is called, kept)
  fails_called e f g line given Cut Kept called h = absurd h

module _ {F : Type 0} (A : AnsweringOf F) where
  pub are_append : (f g h : F) (ls ms : List (List ℕ)) (x y : List ℕ) → AreAnswers A f ls x g → AreAnswers A g ms y h → AreAnswers A f (ls ++ ms) (x ++ y) h
  are_append f g h [] ms x y (e, s) k = subst (λ t. AreAnswers A f ms (t ++ y) h) (sym e) (subst (λ t. AreAnswers A t ms y h) s k)
  are_append f g h (l ∷ ls) ms x y (t, m, s, a, is, e) k = (t, m ++ y, s, a, are_append s g h ls ms m y is k, ap (λ z. z ++ y) e ∙ append_assoc (ended t) m y)

  are_one : (f g : F) (l t : List ℕ) → A.gives f l t g → AreAnswers A f (l ∷ []) (ended t) g
  are_one f g l t a = (t, [], g, a, (refl, refl), sym (append-nil (ended t)))

  pub are_more : (f g h : F) (ls : List (List ℕ)) (l x t : List ℕ) → AreAnswers A f ls x g → A.gives g l t h → AreAnswers A f (ls ++ l ∷ []) (x ++ ended t) h
  are_more f g h ls l x t is a = are_append f g h ls (l ∷ []) x (ended t) is (are_one g h l t a)

  -- the last line, where there is one
  pub last_gives : (f g : F) (last : List ℕ) (P : List ℕ → Type 0) → (length last ≡ 0 → ⊥) → WithAnswer A f last g P → WithAnswers A f (last_of last) g P
  last_gives f g [] P some h = absurd (some refl)
  last_gives f g (b ∷ bs) P some (t, a, h) = (ended t, are_one f g (b ∷ bs) t a, h)

  pub last_stops : (e : ServeFault) (f g : F) (last : List ℕ) (Cut : List ℕ → Type 0) (Kept : Type 0) → (length last ≡ 0 → ⊥)
      → AtFault e ⊥ ⊥ (WithAnswer A f last g Cut) (λ k. A.stops k f last g × Kept) → AtFault e ⊥ ⊥ (WithAnswers A f (last_of last) g Cut) (λ k. (last ≢ []) × A.stops k f last g × Kept)
  last_stops fault.WriteFault f g last Cut Kept some h = last_gives f g last Cut some h
  last_stops fault.NoMemory f g last Cut Kept some (stops, kept) = (λ none. some (ap length none), stops, kept)
  last_stops fault.TraceFault f g last Cut Kept some (stops, kept) = (λ none. some (ap length none), stops, kept)
  last_stops e f g last Cut Kept some h = absurd h

  -- says where the next line is too long, or wasn't asked for
  pub stopped_before : (e : ServeFault) (f mid : F) (a b : Option (List ℕ)) (p q : List ℕ) (text held line after rest x : List ℕ) (lines : List (List ℕ)) (Cut Read : List ℕ → Type 0) (AtEnd : Type 0)
      → length rest ≤ block_size → rest ≡ line ++ line_feed ∷ after → text ≡ flat_map ended lines ++ (held ++ rest) → All IsLine lines → IsLine held → HasNoLineFeed line
      → AreAnswers A f lines x mid → Sends a p b q x
      → AtFault e (limit < length (held ++ line)) ⊥ ⊥ (λ k. k ≡ at.NoMemory)
      → Stopped A f mid text (Sends a p b q) Cut Read AtEnd e
  stopped_before fault.LineTooLong f mid a b p q text held line after rest x lines Cut Read AtEnd few cut whole each is one are sent h = (
    record { lines = lines; rest = held ++ rest; output = x; state = mid; splits = record { whole = whole; each = each }; answers = are },
    (
      refl,
      sent,
      (
        held ++ line,
        line_feed ∷ after,
        record {
          front = ap (λ l. held ++ l) cut ∙ sym (append_assoc held line (line_feed ∷ after));
          one = All-append (λ b. b ≢ line_feed) held line is.one one;
          long = h;
        },
      ),
    ),
  )
  stopped_before fault.NoMemory f mid a b p q text held line after rest x lines Cut Read AtEnd few cut whole each is one are sent h = (
    record { lines = lines; rest = held ++ rest; output = x; state = mid; splits = record { whole = whole; each = each }; answers = are },
    (inl refl, sent, behind held rest is few),
  )
  stopped_before fault.TraceFault f mid a b p q text held line after rest x lines Cut Read AtEnd few cut whole each is one are sent h = absurd (cc h)
  stopped_before e f mid a b p q text held line after rest x lines Cut Read AtEnd few cut whole each is one are sent h = absurd h

  -- says where a fault kept the next line from its answer, or the writer failed in that
  pub stopped_at : (e : ServeFault) (f mid g : F) (a b c : Option (List ℕ)) (p q r : List ℕ) (text held line after rest x : List ℕ) (lines : List (List ℕ)) (Read : List ℕ → Type 0) (AtEnd : Type 0)
      → length rest ≤ block_size → rest ≡ line ++ line_feed ∷ after → text ≡ flat_map ended lines ++ (held ++ rest) → All IsLine lines → IsLine held → HasNoLineFeed line
      → AreAnswers A f lines x mid → Sends a p b q x → length (held ++ line) ≤ limit
      → AtFault e ⊥ ⊥ (WithAnswer A mid (held ++ line) g (λ out. IsCut b c (q ++ out))) (λ k. A.stops k mid (held ++ line) g × Sends b q c r [])
      → Stopped A f g text (Sends a p c r) (λ t. IsCut a c (p ++ t)) Read AtEnd e
  stopped_at fault.WriteFault f mid g a b c p q r text held line after rest x lines Read AtEnd few cut whole each is one are sent short (t, answer, k) = (
    record {
      lines = lines ++ (held ++ line) ∷ [];
      rest = after;
      output = x ++ ended t;
      state = g;
      splits = record {
        whole = one_more text held line after rest lines cut whole;
        each = All-push IsLine lines (held ++ line) each (is_line held line is one short);
      };
      answers = are_more f mid g lines (held ++ line) x t are answer;
    },
    (inl refl, cut_sends a b c p q x (ended t) sent k),
  )
  stopped_at fault.NoMemory f mid g a b c p q r text held line after rest x lines Read AtEnd few cut whole each is one are sent short (stops, k) = (
    record { lines = lines; rest = held ++ rest; output = x; state = mid; splits = record { whole = whole; each = each }; answers = are },
    (inr (held ++ line, next_line held line after rest AtEnd cut is one short, stops), sends_nothing a b c p q r x sent k, behind held rest is few),
  )
  stopped_at fault.TraceFault f mid g a b c p q r text held line after rest x lines Read AtEnd few cut whole each is one are sent short (stops, k) = (
    record { lines = lines; rest = held ++ rest; output = x; state = mid; splits = record { whole = whole; each = each }; answers = are },
    ((held ++ line, next_line held line after rest AtEnd cut is one short, stops), sends_nothing a b c p q r x sent k, behind held rest is few),
  )
  stopped_at e f mid g a b c p q r text held line after rest x lines Read AtEnd few cut whole each is one are sent short h = absurd h

  stops_next : (e : LineFault) (s g : F) (rest : List ℕ) (AtEnd : Type 0) → StopsNext A e s rest ⊥ g → StopsNext A e s rest AtEnd g
  stops_next e s g rest AtEnd (line, next, stops) = (line, record { first = next.first; whole = λ none. absurd (next.whole none); short = next.short }, stops)

  may_stop : (s g : F) (rest : List ℕ) (AtEnd : Type 0) → MayStop A s rest ⊥ g → MayStop A s rest AtEnd g
  may_stop s g rest AtEnd (inl same) = inl same
  may_stop s g rest AtEnd (inr (e, next)) = inr (e, stops_next e s g rest AtEnd next)

  is_stopped : (e : LineFault) (s g : F) (rest : List ℕ) (AtEnd : Type 0) → IsStopped A e s rest ⊥ g → IsStopped A e s rest AtEnd g
  is_stopped at.NoMemory s g rest AtEnd (inl same) = inl same
  is_stopped at.NoMemory s g rest AtEnd (inr next) = inr (stops_next at.NoMemory s g rest AtEnd next)
  is_stopped at.TraceFault s g rest AtEnd next = stops_next at.TraceFault s g rest AtEnd next

  -- says where the writer fails at last
  stopped_may : (e : LineFault) (s g : F) (rest : List ℕ) (AtEnd : Type 0) → IsStopped A e s rest AtEnd g → MayStop A s rest AtEnd g
  stopped_may at.NoMemory s g rest AtEnd (inl same) = inl same
  stopped_may at.NoMemory s g rest AtEnd (inr next) = inr (at.NoMemory, next)
  stopped_may at.TraceFault s g rest AtEnd next = inr (at.TraceFault, next)

  -- lines before, and what came after them
  pub stopped_later : (e : ServeFault) (f mid g : F) (a b c : Option (List ℕ)) (p q r : List ℕ) (lines : List (List ℕ)) (x text : List ℕ) (Read : List ℕ → Type 0) (AtEnd : Type 0)
      → All IsLine lines → AreAnswers A f lines x mid → Sends a p b q x
      → Stopped A mid g text (Sends b q c r) (λ t. IsCut b c (q ++ t)) (λ _. ⊥) ⊥ e
      → Stopped A f g (flat_map ended lines ++ text) (Sends a p c r) (λ t. IsCut a c (p ++ t)) Read AtEnd e
  stopped_later e f mid g a b c p q r lines x text Read AtEnd each are sent (s, h) = (front, cases e h)
    where
      front : FrontOf A f (flat_map ended lines ++ text)
      front = record {
        lines = lines ++ s.lines;
        rest = s.rest;
        output = x ++ s.output;
        state = s.state;
        splits = record {
          whole = ap (λ l. flat_map ended lines ++ l) s.splits.whole ∙ sym (append_assoc (flat_map ended lines) (flat_map ended s.lines) s.rest)
              ∙ ap (λ l. l ++ s.rest) (sym (flat_map-append ended lines s.lines));
          each = All-append IsLine lines s.lines each s.splits.each;
        };
        answers = are_append f mid s.state lines s.lines x s.output are s.answers;
      }

      all : Sends b q c r s.output → Sends a p c r (x ++ s.output)
      all k = sends_trans a b c p q r x s.output sent k

      cases : (e : ServeFault)
          → AtFault e ((g ≡ s.state) × Sends b q c r s.output × StartsLong s.rest) ((g ≡ s.state) × Sends b q c r s.output × ⊥) (MayStop A s.state s.rest ⊥ g × IsCut b c (q ++ s.output)) (λ k. IsStopped A k s.state s.rest ⊥ g × Sends b q c r s.output × IsUnanswered s.rest)
          → AtFault e
          ((g ≡ s.state) × Sends a p c r (x ++ s.output) × StartsLong s.rest)
          ((g ≡ s.state) × Sends a p c r (x ++ s.output) × Read s.rest)
          (MayStop A s.state s.rest AtEnd g × IsCut a c (p ++ (x ++ s.output)))
          (λ k. IsStopped A k s.state s.rest AtEnd g × Sends a p c r (x ++ s.output) × IsUnanswered s.rest)
      cases fault.LineTooLong k = (k.0, all k.1, k.2)
      cases fault.ReadFault k = absurd k.2
      cases fault.WriteFault k = (may_stop s.state g s.rest AtEnd k.0, cut_sends a b c p q x s.output sent k.1)
      cases fault.NoMemory k = (is_stopped at.NoMemory s.state g s.rest AtEnd k.0, all k.1, k.2)
      cases fault.BadCount k = absurd k
      cases fault.TraceFault k = (is_stopped at.TraceFault s.state g s.rest AtEnd k.0, all k.1, k.2)

  -- the answers of whole lines and of a last one are the output
  output_split : (f mid g : F) (lines : List (List ℕ)) (last x y : List ℕ) → All IsLine lines → IsLine last → AreAnswers A f lines x mid → AreAnswers A mid (last_of last) y g
      → AreAnswers A f (input_lines (flat_map ended lines ++ last)) (x ++ y) g
  output_split f mid g lines last x y each is h k = subst (λ ls. AreAnswers A f ls (x ++ y) g) (sym (lines_split lines last each is.one)) (are_append f mid g lines (last_of last) x y h k)

  -- the end of the input
  pub answered_all : (f mid g : F) (a b c : Option (List ℕ)) (p q r : List ℕ) (lines : List (List ℕ)) (last x : List ℕ) (m n : ℕ)
      → All IsLine lines → IsLine last → m ≡ length lines → n ≡ m + length (last_of last)
      → AreAnswers A f lines x mid → Sends a p b q x → WithAnswers A mid (last_of last) g (Sends b q c r)
      → IsAnswered A f g (flat_map ended lines ++ last) n (Sends a p c r)
  answered_all f mid g a b c p q r lines last x m n each is e k are sent (y, ys, more) =
      let split = lines_split lines last each is.one in
      record {
        each = subst (λ ls. All IsLine ls) (sym split) (All-append IsLine lines (last_of last) each (last_each last is));
        count = (let l : length (lines ++ last_of last) ≡ length lines + length (last_of last) = length-append lines (last_of last) in let s : length (input_lines (flat_map ended lines ++ last)) ≡ length (lines ++ last_of last) = ap length split in omega (arith, e, k, l, s));
        output = x ++ y;
        answers = output_split f mid g lines last x y each is are ys;
        sent = sends_trans a b c p q r x y sent more;
      }

  pub fails_last : (e : ServeFault) (f mid g : F) (a b c : Option (List ℕ)) (p q r : List ℕ) (lines : List (List ℕ)) (last x : List ℕ) (left : Option (List ℕ))
      → All IsLine lines → IsLine last → IsAtEnd left
      → AreAnswers A f lines x mid → Sends a p b q x
      → AtFault e ⊥ ⊥ (WithAnswers A mid (last_of last) g (λ out. IsCut b c (q ++ out))) (λ k. (last ≢ []) × A.stops k mid last g × Sends b q c r [])
      → Fails A f g (flat_map ended lines ++ last) (Sends a p c r) (λ t. IsCut a c (p ++ t)) left e
  fails_last fault.WriteFault f mid g a b c p q r lines last x left each is end are sent (y, ys, k) =
      inr record {
        end = end;
        output = x ++ y;
        answers = output_split f mid g lines last x y each is are ys;
        cut = cut_sends a b c p q x y sent k;
      }
  fails_last fault.NoMemory f mid g a b c p q r lines last x left each is end are sent (some, stops, k) =
      inl (
        record { lines = lines; rest = last; output = x; state = mid; splits = record { whole = refl; each = each }; answers = are },
        (inr (last, next_last last (IsAtEnd left) is some end, stops), sends_nothing a b c p q r x sent k, behind_line last is),
      )
  fails_last fault.TraceFault f mid g a b c p q r lines last x left each is end are sent (some, stops, k) =
      inl (
        record { lines = lines; rest = last; output = x; state = mid; splits = record { whole = refl; each = each }; answers = are },
        ((last, next_last last (IsAtEnd left) is some end, stops), sends_nothing a b c p q r x sent k, behind_line last is),
      )
  fails_last e f mid g a b c p q r lines last x left each is end are sent h = absurd h

  -- says what was pending went out after another fault than the writer's
  closed_at : (e : ServeFault) (f g : F) (a b c left : Option (List ℕ)) (p text : List ℕ) (Cut : List ℕ → Type 0) → IsNoWriteFault e
      → Appends b c p → Fails A f g text (Sends a [] b p) Cut left e → Fails A f g text (Appends a c) (IsCut a c) left e
  closed_at fault.WriteFault f g a b c left p text Cut other h k = absurd other
  closed_at fault.BadCount f g a b c left p text Cut other h k = absurd other
  closed_at e f g a b c left p text Cut other h (inl (s, k)) = inl (s, (k.0, sends_close a b c p s.output k.1 h, k.2))
  closed_at e f g a b c left p text Cut other h (inr k) = absurd k

  -- or didn't go out whole
  cut_at : (e : ServeFault) (f g : F) (a b c left : Option (List ℕ)) (p text : List ℕ) (Cut : List ℕ → Type 0) → IsNoWriteFault e
      → IsCut b c p → Fails A f g text (Sends a [] b p) Cut left e → Fails A f g text (Appends a c) (IsCut a c) left fault.WriteFault
  cut_at fault.WriteFault f g a b c left p text Cut other h k = absurd other
  cut_at fault.BadCount f g a b c left p text Cut other h k = absurd other
  cut_at fault.NoMemory f g a b c left p text Cut other h (inl (s, k)) = inl (s, (stopped_may at.NoMemory s.state g s.rest (IsAtEnd left) k.0, cut_close a b c p s.output k.1 h))
  cut_at fault.TraceFault f g a b c left p text Cut other h (inl (s, k)) = inl (s, (stopped_may at.TraceFault s.state g s.rest (IsAtEnd left) k.0, cut_close a b c p s.output k.1 h))
  cut_at e f g a b c left p text Cut other h (inl (s, k)) = inl (s, (inl k.0, cut_close a b c p s.output k.1 h))
  cut_at e f g a b c left p text Cut other h (inr k) = absurd k

  -- nothing more was written where the writer failed
  writer_failed : (f g : F) (left : Option (List ℕ)) (text : List ℕ) (Sent More Cut : List ℕ → Type 0) → Fails A f g text Sent Cut left fault.WriteFault → Fails A f g text More Cut left fault.WriteFault
  writer_failed f g left text Sent More Cut (inl h) = inl h
  writer_failed f g left text Sent More Cut (inr h) = inr h

  -- serving, once what was pending went out after a fault and the writer was flushed
  closes : (f g : F) (d : DevicesOf) (p : List ℕ) (c : Option (List ℕ)) (w : CountsOf) (e : ServeFault) → (e ≡ fault.WriteFault → ⊥)
      → StopsAt A f g d (Sends d.old [] d.new p) e → CountsServing {T = ℕ} d.reader_old d.reader_new d.writer_old d.writer_new (Err e)
      → Appends d.new c p → IsFlushed w → IsSteady d.writer_new w → Serves A f g (record d { new = c; writer_new = w }) (Err e)
  closes f g d p c w e other (text, went, fails) counts h flushed steady = record {
    all = tt;
    stopped = (text, went, closed_at e f g d.old d.new c d.rest p text (IsCut d.old d.new) (at_other e (Steady d) (Stuck d) (Unit {0}) ⊥ other counts.writer (λ _. tt)) h fails);
    reader = counts.reader;
    writer = at_other e (Steady d) (Stuck d) (IsSteady d.writer_old w) (HasFault IsStuck d.writer_old w) other counts.writer (λ s. steady_trans s steady);
    flushed = at_other e (Steady d) (Stuck d) (IsFlushed w) (Unit {0}) other counts.writer (λ _. flushed);
    bounded = tt;
    grown = counts.grown;
  }

  -- or the writer failed there
  cuts : (f g : F) (d : DevicesOf) (p : List ℕ) (c : Option (List ℕ)) (w : CountsOf) (e : ServeFault) → (e ≡ fault.WriteFault → ⊥)
      → StopsAt A f g d (Sends d.old [] d.new p) e → CountsServing {T = ℕ} d.reader_old d.reader_new d.writer_old d.writer_new (Err e)
      → IsCut d.new c p → HasFault IsStuck d.writer_new w → Serves A f g (record d { new = c; writer_new = w }) (Err fault.WriteFault)
  cuts f g d p c w e other (text, went, fails) counts h due = record {
    all = tt;
    stopped = (text, went, cut_at e f g d.old d.new c d.rest p text (IsCut d.old d.new) (at_other e (Steady d) (Stuck d) (Unit {0}) ⊥ other counts.writer (λ _. tt)) h fails);
    reader = any_read e (IsSteady d.reader_old d.reader_new) (HasFault IsReadOut d.reader_old d.reader_new) counts.reader;
    writer = fault_after IsStuck (steady_at e (Steady d) (Stuck d) other counts.writer) due;
    flushed = tt;
    bounded = tt;
    grown = counts.grown;
  }

  -- or at the end of the input
  ends_cut : (f g : F) (d : DevicesOf) (p : List ℕ) (c : Option (List ℕ)) (w : CountsOf) (n : ℕ)
      → ReadsAll A f g d (Sends d.old [] d.new p) n → CountsServing {T = ℕ} d.reader_old d.reader_new d.writer_old d.writer_new (Ok n)
      → IsCut d.new c p → HasFault IsStuck d.writer_new w → Serves A f g (record d { new = c; writer_new = w }) (Err fault.WriteFault)
  ends_cut f g d p c w n (text, went, end, was) counts h due = record {
    all = tt;
    stopped = (text, went, inr record { end = end; output = was.output; answers = was.answers; cut = cut_close d.old d.new c p was.output was.sent h });
    reader = inl counts.reader;
    writer = fault_after IsStuck counts.writer due;
    flushed = tt;
    bounded = tt;
    grown = counts.grown;
  }

  -- or before that
  pub stays_failed : (f g : F) (d : DevicesOf) (p : List ℕ) (e : ServeFault) → e ≡ fault.WriteFault
      → StopsAt A f g d (Sends d.old [] d.new p) e → CountsServing {T = ℕ} d.reader_old d.reader_new d.writer_old d.writer_new (Err e) → Serves A f g d (Err fault.WriteFault)
  stays_failed f g d p e is stops counts =
      let s : StopsAt A f g d (Sends d.old [] d.new p) fault.WriteFault = subst (λ x. StopsAt A f g d (Sends d.old [] d.new p) x) is stops in
      let k : CountsServing {T = ℕ} d.reader_old d.reader_new d.writer_old d.writer_new (Err fault.WriteFault) = subst (λ x. CountsServing {T = ℕ} d.reader_old d.reader_new d.writer_old d.writer_new (Err x)) is counts in
      record {
        all = tt;
        stopped = (s.0, s.1, writer_failed f g d.rest s.0 (Sends d.old [] d.new p) (Appends d.old d.new) (IsCut d.old d.new) s.2);
        reader = k.reader;
        writer = k.writer;
        flushed = tt;
        bounded = tt;
        grown = k.grown;
      }

  -- serving, once all of the input was answered, what was pending went out and the writer was flushed
  closes_all : (f g : F) (d : DevicesOf) (p : List ℕ) (c : Option (List ℕ)) (w : CountsOf) (n : ℕ)
      → ReadsAll A f g d (Sends d.old [] d.new p) n → CountsServing {T = ℕ} d.reader_old d.reader_new d.writer_old d.writer_new (Ok n)
      → Appends d.new c p → IsFlushed w → IsSteady d.writer_new w → Serves A f g (record d { new = c; writer_new = w }) (Ok n)
  closes_all f g d p c w n (text, went, end, was) counts h flushed steady = record {
    all = (text, went, end, record { each = was.each; count = was.count; output = was.output; answers = was.answers; sent = sends_close d.old d.new c p was.output was.sent h });
    stopped = tt;
    reader = counts.reader;
    writer = steady_trans counts.writer steady;
    flushed = flushed;
    bounded = counts.bounded;
    grown = counts.grown;
  }

  -- serving, once it has ended
  pub ends : {R W : Type 0} (remaining : R → Option (List ℕ)) (contents : W → Option (List ℕ)) (f g : F) (unread rest : CountedDevice R) (old mid new : CountedDevice W) (pending : Vec ℕ) (served result : Result ℕ ServeFault)
      → IfOk served (ReadsAll A f g (devices remaining contents unread rest old mid) (Sends (contents (device_of old)) [] (contents (device_of mid)) pending.items))
      → IfErr served (StopsAt A f g (devices remaining contents unread rest old mid) (Sends (contents (device_of old)) [] (contents (device_of mid)) pending.items))
      → CountsServing (counts_of unread) (counts_of rest) (counts_of old) (counts_of mid) served
      → EndsServing contents mid pending new served result → Serves A f g (devices remaining contents unread rest old new) result
  ends remaining contents f g unread rest old mid new pending (Ok n) result all stopped counts (had_failed is same kept) = absurd (cc is)
  ends remaining contents f g unread rest old mid new pending (Ok n) result all stopped counts (closed other same went flushed steady) =
      subst (Serves A f g (devices remaining contents unread rest old new)) (sym same)
      (closes_all f g (devices remaining contents unread rest old mid) pending.items (contents (device_of new)) (counts_of new) n all counts went flushed steady)
  ends remaining contents f g unread rest old mid new pending (Ok n) result all stopped counts (was_cut other same out due) =
      subst (Serves A f g (devices remaining contents unread rest old new)) (sym same)
      (ends_cut f g (devices remaining contents unread rest old mid) pending.items (contents (device_of new)) (counts_of new) n all counts out due)
  ends remaining contents f g unread rest old mid new pending (Err e) result all stopped counts (had_failed is same kept) =
      subst (λ w. Serves A f g (devices remaining contents unread rest old w) result) (sym kept)
      (subst (Serves A f g (devices remaining contents unread rest old mid)) (sym (same ∙ is)) (stays_failed f g (devices remaining contents unread rest old mid) pending.items e (cc is) stopped counts))
  ends remaining contents f g unread rest old mid new pending (Err e) result all stopped counts (closed other same went flushed steady) =
      subst (Serves A f g (devices remaining contents unread rest old new)) (sym same)
      (closes f g (devices remaining contents unread rest old mid) pending.items (contents (device_of new)) (counts_of new) e (λ is. other (ap Err is)) stopped counts went flushed steady)
  ends remaining contents f g unread rest old mid new pending (Err e) result all stopped counts (was_cut other same out due) =
      subst (Serves A f g (devices remaining contents unread rest old new)) (sym same)
      (cuts f g (devices remaining contents unread rest old mid) pending.items (contents (device_of new)) (counts_of new) e (λ is. other (ap Err is)) stopped counts out due)

  pub fails_read : (f g : F) (a c left : Option (List ℕ)) (q : List ℕ) (lines : List (List ℕ)) (held x : List ℕ) → All IsLine lines → IsLine held → AreAnswers A f lines x g → Sends a [] c q x
      → Fails A f g (flat_map ended lines ++ held) (Sends a [] c q) (IsCut a c) left fault.ReadFault
  fails_read f g a c left q lines held x each is are sent =
      inl (record { lines = lines; rest = held; output = x; state = g; splits = record { whole = refl; each = each }; answers = are }, (refl, sent, is.one))

  pub fails_send : (f g : F) (a b c left : Option (List ℕ)) (p q : List ℕ) (lines : List (List ℕ)) (held x : List ℕ) → All IsLine lines → AreAnswers A f lines x g → Sends a [] b p x → IsCut b c p
      → Fails A f g (flat_map ended lines ++ held) (Sends a [] c q) (IsCut a c) left fault.WriteFault
  fails_send f g a b c left p q lines held x each are sent cut =
      inl (record { lines = lines; rest = held; output = x; state = g; splits = record { whole = refl; each = each }; answers = are }, (inl refl, cut_close a b c p x sent cut))

  -- says where no block was had to read into
  pub fails_start : (f : F) (a left : Option (List ℕ)) (p : List ℕ) → p ≡ [] → Fails A f f [] (Sends a [] a p) (IsCut a a) left fault.NoMemory
  fails_start f a left p none =
      inl (
        record { lines = []; rest = []; output = []; state = f; splits = record { whole = refl; each = All-nil IsLine }; answers = (refl, refl) },
        (inl refl, sends_kept a [] p [] none, behind_line [] no_line),
      )
