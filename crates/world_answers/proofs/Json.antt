-- The name of an operation that a line asks for is UTF-8, and no longer than the line.
use Rattle.std.proofs.Common.{◌≡◌, ◌≤◌, ℕ, zero, suc, Bool, true, false, List, [], ◌∷◌, ◌++◌, length, drop, ◌&&◌, Option, Some, None, IsUtf8, codes, refl, subst, arith, append_assoc}
use Rattle.std.specs.Prelude.{nat_eq, ◌==◌}
use Rattle.std.specs.List.{starts_with}
use Rattle.std.specs.Ordering.{nat_cmp, match_ordering}
use Rattle.std.specs.Cmp.Lexicographic.{slice_cmp}
use Rattle.std.proofs.Common.{Ordering, Less, Equal, Greater}
use Rattle.std.proofs.lemmas.Bool.{cond_both}
use Rattle.std.proofs.lemmas.Bool.Decides.{nat_tests}
use Rattle.json.specs.Text.{content, plain}
use Rattle.json.specs.Token.{Token, begin_object, end_object, begin_array, end_array, key, string, number, boolean, null, bad}
use Rattle.json.specs.Ascii as ascii
use Rattle.json.specs.Word.{word, head, literal, number_before, ends_word, after_number}
use Rattle.json.specs.Lex.{Lexeme, token, comma, colon, Class, quote, backslash, operator, other, class, operator_lexeme, string_token, Mode, between, in_word, in_string, in_escape, lex_byte, lex, Place, fresh, after_value, after_comma, after_key, begins_colon, may_begin, if_allowed, place_token, punctuate, tokens}
use Rattle.json.specs.Json as json
use Rattle.json.specs.Json.{Parse, parse_map, after_end_array, read_key, items_step, members_step, items, members, value_with, value, if_last}
use Rattle.serde_json.specs.Data as parsed
use Rattle.serde_json.specs.Data.{Data, Items, no_items, item, Members, no_members, member, put}
use Rattle.serde_json.specs.Read.{number_of, of_json, of_items, of_members, max_depth, read}
use Rattle.serde_json.specs.Find.{get_member, get, as_array}
use Rattle.request_line.specs.Requests.{RequestOf, name_of, asked, asked_each, IsRequest, AreRequests}
use Rattle.plan_laws.proofs.Each.{Each, Maybe, any-map, any-then, maybe-map, maybe-and_then}
use Rattle.world_answers.proofs.Strings.{Fits}
use Rattle.world_answers.proofs.Content.{after-byte, Reads, content-reads}

-- ---- tokens

module _ (n : ℕ) where
  abbrev TokenFits : Token → Type 0
  TokenFits (string s) = Fits n s
  TokenFits _ = Unit {0}

  abbrev TokensFit : List Token → Type 0
  TokensFit = Each TokenFits

  abbrev LexemeFits : Lexeme → Type 0
  LexemeFits (token t) = TokenFits t
  LexemeFits comma = Unit {0}
  LexemeFits colon = Unit {0}

  operator-fits : (x : ℕ) → LexemeFits (operator_lexeme x)
  operator-fits x = cond_both (x == 123) _ _ LexemeFits (λ _. tt) (λ _. cond_both (x == 125) _ _ LexemeFits (λ _. tt) (λ _. cond_both (x == 91) _ _ LexemeFits (λ _. tt)
      (λ _. cond_both (x == 93) _ _ LexemeFits (λ _. tt) (λ _. cond_both (x == 44) _ _ LexemeFits (λ _. tt) (λ _. tt)))))

  number-fits : (t : List ℕ) (o : Option (List ℕ)) → TokenFits (number_before t o)
  number-fits t None = tt
  number-fits t (Some rest) = cond_both (ends_word rest) _ _ TokenFits (λ _. tt) (λ _. tt)

  literal-fits : (name : List ℕ) (u : Token) (t : List ℕ) → TokenFits u → TokenFits (literal name u t)
  literal-fits name u t p = cond_both (starts_with nat_eq t name && ends_word (drop (length name) t)) _ _ TokenFits (λ _. p) (λ _. tt)

  word-fits : (t : List ℕ) → TokenFits (word t)
  unfolding word
  word-fits t = cond_both (head t == 116) _ _ TokenFits (λ _. literal-fits ascii.true_text (boolean true) t tt) (λ _. cond_both (head t == 102) _ _ TokenFits (λ _. literal-fits ascii.false_text (boolean false) t tt)
      (λ _. cond_both (head t == 110) _ _ TokenFits (λ _. literal-fits ascii.null_text null t tt) (λ _. number-fits t (after_number t))))

  string-fits : (m : ℕ) (o : Option (List ℕ)) → m ≤ n → Reads [] m o → TokenFits (string_token o)
  string-fits m None le h = tt
  string-fits m (Some s) le h = let short = h.1 in record { utf8 = h.0; short = omega (arith, le, short) }

  -- a byte of each class, in each mode
  byte-fits : (m : Mode) (c : Class) (x : ℕ) (xs : List ℕ) (k : Mode → List Lexeme) → (c ≡ quote → TokenFits (string_token (content plain xs))) → ((next : Mode) → Each LexemeFits (k next)) → Each LexemeFits (lex_byte m c x xs k)
  byte-fits between quote x xs k s h = (s refl, h in_string)
  byte-fits between backslash x xs k s h = (tt, h in_word)
  byte-fits between operator x xs k s h = (operator-fits x, h between)
  byte-fits between other x xs k s h = (word-fits (x ∷ xs), h in_word)
  byte-fits in_word operator x xs k s h = (operator-fits x, h between)
  byte-fits in_string backslash x xs k s h = h in_escape
  byte-fits m c x xs k s h = h _

  quote-is : (x : ℕ) → class x ≡ quote → x ≡ 34
  quote-is x e = grind (arith, nat_tests)

  lex-fits : (m : Mode) (pre xs : List ℕ) → length xs ≤ n → IsUtf8 (pre ++ xs) → Each LexemeFits (lex m xs)
  unfolding lex
  lex-fits m pre [] le utf8 = tt
  lex-fits m pre (x ∷ xs) le utf8 =
      byte-fits m (class x) x xs (λ next. lex next xs)
      (λ e. let is = quote-is x e in string-fits (length xs) (content plain xs) (omega (arith, le)) (content-reads plain [] xs tt (after-byte pre x xs utf8 (omega (arith, is)))))
      (λ next. lex-fits next (pre ++ x ∷ []) xs (omega (arith, le)) (rw append_assoc utf8))

  allowed-fits : (b : Bool) (t : Token) (k : Place → List Token) (next : Place) → TokenFits t → ((p : Place) → TokensFit (k p)) → TokensFit (if_allowed b t k next)
  allowed-fits true t k next p h = (p, h next)
  allowed-fits false t k next p h = (tt, tt)

  place-fits : (p : Place) (t : Token) (b : Bool) (k : Place → List Token) → TokenFits t → ((q : Place) → TokensFit (k q)) → TokensFit (place_token p t b k)
  place-fits p (key s) b k t h = (tt, tt)
  place-fits p (string s) true k t h = allowed-fits (may_begin p) (key s) k after_key tt h
  place-fits p bad b k t h = (tt, tt)
  place-fits p x b k t h = allowed-fits _ _ k _ t h

  punctuate-fits : (p : Place) (ls : List Lexeme) → Each LexemeFits ls → TokensFit (punctuate p ls)
  unfolding punctuate
  punctuate-fits after_value (comma ∷ ls) h = punctuate-fits after_comma ls h.1
  punctuate-fits after_key (colon ∷ ls) h = punctuate-fits fresh ls h.1
  punctuate-fits p (token t ∷ ls) h = place-fits p t (begins_colon ls) (λ next. punctuate next ls) h.0 (λ next. punctuate-fits next ls h.1)
  punctuate-fits fresh [] h = tt
  punctuate-fits after_value [] h = tt
  punctuate-fits p ls h = (tt, tt)

  tokens-fit : (text : List ℕ) → length text ≤ n → IsUtf8 text → TokensFit (tokens text)
  tokens-fit text le utf8 = punctuate-fits fresh (lex between text) (lex-fits between [] text le utf8)

  -- ---- values, by their strings

  abbrev mutual
    ValueFits : json.Json → Type 0
    ValueFits (json.string s) = Fits n s
    ValueFits (json.array js) = ItemsFit js
    ValueFits (json.object ms) = MembersFit ms
    ValueFits _ = Unit {0}

    ItemsFit : json.Items → Type 0
    ItemsFit json.no_items = Unit {0}
    ItemsFit (json.item j js) = ValueFits j × ItemsFit js

    MembersFit : json.Members → Type 0
    MembersFit json.no_members = Unit {0}
    MembersFit (json.member k j ms) = ValueFits j × MembersFit ms

  -- says what is read, and what is left
  abbrev Parsed : {A : Type 0} → (A → Type 0) → A × List Token → Type 0
  Parsed Q p = Q p.0 × TokensFit p.1

  abbrev Parses : {A : Type 0} → (A → Type 0) → Parse A → Type 0
  Parses Q parse = (ts : List Token) → TokensFit ts → Maybe (Parsed Q) (parse ts)

  end-fits : (ts : List Token) → TokensFit ts → Maybe TokensFit (after_end_array ts)
  end-fits (end_array ∷ ts) h = h.1
  end-fits ts h = tt

  key-fits : Parses (λ (k : Option (List ℕ)). Unit {0}) read_key
  key-fits (end_object ∷ ts) h = (tt, h.1)
  key-fits (key s ∷ ts) h = (tt, h.1)
  key-fits ts h = tt

  module _ (parse : Parse json.Json) (fits : Parses ValueFits parse) where
    item-fits : (more : Parse json.Items) → Parses ItemsFit more → (ts : List Token) (o : Option (List Token)) → TokensFit ts → Maybe TokensFit o → Maybe (Parsed ItemsFit) (items_step parse more ts o)
    item-fits more others ts (Some rest) h p = (tt, p)
    item-fits more others ts None h p =
        maybe-and_then (Parsed ValueFits) (Parsed ItemsFit) _ _ (λ q r. maybe-map (Parsed ItemsFit) (Parsed ItemsFit) _ _ (λ js b. ((r.0, b.0), b.1)) (others q.1 r.1)) (fits ts h)

    items-fit : (m : ℕ) → Parses ItemsFit (items parse m)
    unfolding items
    items-fit zero ts h = tt
    items-fit (suc m) ts h = item-fits (items parse m) (items-fit m) ts (after_end_array ts) h (end-fits ts h)

    member-fits : (more : Parse json.Members) → Parses MembersFit more → (k : Option (List ℕ)) → Parses MembersFit (members_step parse more k)
    member-fits more others None ts h = (tt, h)
    member-fits more others (Some k) ts h =
        maybe-and_then (Parsed ValueFits) (Parsed MembersFit) _ _ (λ q r. maybe-map (Parsed MembersFit) (Parsed MembersFit) _ _ (λ ms b. ((r.0, b.0), b.1)) (others q.1 r.1)) (fits ts h)

    members-fit : (m : ℕ) → Parses MembersFit (members parse m)
    unfolding members
    members-fit zero ts h = tt
    members-fit (suc m) ts h = maybe-and_then (Parsed (λ k. Unit {0})) (Parsed MembersFit) _ _ (λ q r. member-fits (members parse m) (members-fit m) q.0 q.1 r.1) (key-fits ts h)

  with-fits : (a : Parse json.Items) (o : Parse json.Members) → Parses ItemsFit a → Parses MembersFit o → Parses ValueFits (value_with a o)
  with-fits a o p q (begin_object ∷ ts) h = maybe-map (Parsed MembersFit) (Parsed ValueFits) _ _ (λ ms b. b) (q ts h.1)
  with-fits a o p q (begin_array ∷ ts) h = maybe-map (Parsed ItemsFit) (Parsed ValueFits) _ _ (λ js b. b) (p ts h.1)
  with-fits a o p q (string s ∷ ts) h = h
  with-fits a o p q (number s ∷ ts) h = h
  with-fits a o p q (boolean b ∷ ts) h = h
  with-fits a o p q (null ∷ ts) h = h
  with-fits a o p q ts h = tt

  value-fits : (depth : ℕ) → Parses ValueFits (value depth)
  unfolding value
  value-fits zero = with-fits (λ us. None) (λ us. None) (λ us k. tt) (λ us k. tt)
  value-fits (suc depth) = with-fits _ _ (λ us k. items-fit (value depth) (value-fits depth) (length us) us k) (λ us k. members-fit (value depth) (value-fits depth) (length us) us k)

  -- ---- data

  abbrev mutual
    DataFits : Data → Type 0
    DataFits (parsed.string s) = Fits n s
    DataFits (parsed.array ds) = EachFits ds
    DataFits (parsed.object ms) = AllFit ms
    DataFits _ = Unit {0}

    EachFits : Items → Type 0
    EachFits no_items = Unit {0}
    EachFits (item d ds) = DataFits d × EachFits ds

    AllFit : Members → Type 0
    AllFit no_members = Unit {0}
    AllFit (member k d ms) = DataFits d × AllFit ms

  by_order : {A : Type 0} (P : A → Type 0) (o : Ordering) (a b c : A) → P a → P b → P c → P (match_ordering o a b c)
  by_order P Less a b c p q r = p
  by_order P Equal a b c p q r = q
  by_order P Greater a b c p q r = r

  put-fits : (k : List ℕ) (d : Data) (ms : Members) → DataFits d → AllFit ms → AllFit (put k d ms)
  put-fits k d no_members p h = (p, tt)
  put-fits k d (member l e ms) p h = by_order AllFit (slice_cmp nat_cmp k l) (member k d (member l e ms)) (member l d ms) (member l e (put k d ms)) (p, h) (p, h.1) (h.0, put-fits k d ms p h.1)

  mutual
    data-fits : (j : json.Json) → ValueFits j → Maybe DataFits (of_json j)
    data-fits (json.number s) h = any-map DataFits _ (number_of s) (λ _. tt)
    data-fits (json.string s) h = h
    data-fits (json.array js) h = maybe-map EachFits DataFits _ _ (λ x p. p) (each-fits js h)
    data-fits (json.object ms) h = maybe-map AllFit DataFits _ _ (λ x p. p) (all-fit ms no_members h tt)
    data-fits j h = tt

    each-fits : (js : json.Items) → ItemsFit js → Maybe EachFits (of_items js)
    each-fits json.no_items h = tt
    each-fits (json.item j js) h = maybe-and_then DataFits EachFits _ _ (λ d p. maybe-map EachFits EachFits _ _ (λ ds q. (p, q)) (each-fits js h.1)) (data-fits j h.0)

    all-fit : (ms : json.Members) (found : Members) → MembersFit ms → AllFit found → Maybe AllFit (of_members ms found)
    all-fit json.no_members found h p = p
    all-fit (json.member k j ms) found h p = maybe-and_then DataFits AllFit _ _ (λ d q. all-fit ms (put k d found) h.1 (put-fits k d found q p)) (data-fits j h.0)

  last-fits : (j : json.Json) (ts : List Token) → ValueFits j → Maybe ValueFits (if_last j ts)
  last-fits j [] h = h
  last-fits j (t ∷ ts) h = tt

  read-fits : (text : List ℕ) → length text ≤ n → IsUtf8 text → Maybe DataFits (read text)
  read-fits text le utf8 =
      maybe-and_then ValueFits DataFits _ _ data-fits (maybe-and_then (Parsed ValueFits) ValueFits _ _ (λ p h. last-fits p.0 p.1 h.0) (value-fits max_depth (tokens text) (tokens-fit text le utf8)))

  -- ---- requests

  member-of : (k : List ℕ) (ms : Members) → AllFit ms → Maybe DataFits (get_member k ms)
  member-of k no_members h = tt
  member-of k (member l e ms) h = by_order (Maybe DataFits) (slice_cmp nat_cmp k l) (get_member k ms) (Some e) (get_member k ms) (member-of k ms h.1) h.0 (member-of k ms h.1)

  get-fits : (k : List ℕ) (d : Data) → DataFits d → Maybe DataFits (get k d)
  get-fits k (parsed.object ms) h = member-of k ms h
  get-fits k d h = tt

  name-fits : (o : Option Data) → Maybe DataFits o → Maybe (Maybe (Fits n)) (name_of o)
  name-fits (Some (parsed.string s)) h = h
  name-fits o h = tt

  abbrev pub RequestFits : RequestOf → Type 0
  RequestFits r = Maybe (Fits n) r.operation_name

  asked-fits : (d : Data) → DataFits d → Maybe RequestFits (asked d)
  asked-fits d h = any-then RequestFits _ _ (λ query. maybe-map (Maybe (Fits n)) RequestFits _ _ (λ name p. p) (name-fits _ (get-fits (codes "operationName") d h)))

  pub request-fits : (line : List ℕ) (r : RequestOf) → length line ≤ n → IsRequest line r → RequestFits r
  request-fits line r le is = subst (Maybe RequestFits) is.members (maybe-and_then DataFits RequestFits _ _ asked-fits (read-fits line le is.text))

  -- ---- the values of an array

  values-fit : (ds : Items) → EachFits ds → Each (Maybe RequestFits) (asked_each ds)
  values-fit no_items h = tt
  values-fit (item d ds) h = (asked-fits d h.0, values-fit ds h.1)

  array-fits : (d : Data) → DataFits d → Maybe EachFits (as_array d)
  array-fits (parsed.array ds) h = h
  array-fits d h = tt

  pub requests-fit : (line : List ℕ) (values : List (Option RequestOf)) → length line ≤ n → AreRequests line values → Each (Maybe RequestFits) values
  requests-fit line values le are =
      subst (Maybe (Each (Maybe RequestFits))) are.values (maybe-map EachFits (Each (Maybe RequestFits)) _ _ values-fit (maybe-and_then DataFits EachFits _ _ array-fits (read-fits line le are.text)))
