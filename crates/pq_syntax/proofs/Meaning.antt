-- What a text is read as is its tree or its fault, and a text has one of them.
use Rattle.std.proofs.Common.{◌≡◌, ℕ, suc, ◌-◌, Bool, true, false, cond, List, [], ◌∷◌, ◌++◌, length, drop, Option, Some, None, Result, Ok, Err, IfOk, refl, sym, ap, ◌∙◌, subst, arith, length-append}
use Rattle.std.proofs.lemmas.Bool.{ltb-true, ltb-false}
use Rattle.std.proofs.lemmas.List.{length-map, map-append}
use Rattle.pq_lex.specs.declared.token.Code.{Code as LexicalCode}
use Rattle.pq_lex.specs.declared.token.Span.{Span}
use Rattle.pq_lex.specs.declared.token.Token.{Token}
use Rattle.pq_lex.specs.aux.Reading.{Reading, tokens_of}
use Rattle.pq_lex.specs.Tokens.{Lexes}
use Rattle.pq_syntax.specs.Rule.{Parse, Derives, IsFaultPlace}
use Rattle.pq_syntax.specs.aux.Machine.{on_ok, run}
use Rattle.pq_syntax.specs.Grammar.{proto_file, deeper_file}
use Rattle.pq_syntax.specs.Tree.{file_nodes}
use Rattle.pq_syntax.specs.Words.{Word, word, words, accepts}
use Rattle.pq_syntax.specs.aux.Reading.{nodes_of, reading, passes}
use Rattle.pq_syntax.specs.FaultPlace.{IsTree, IfTree, IfFaulty, IsFault, FaultStands, GoesDeeper, is_version_fault}
use Rattle.pq_syntax.specs.FaultPlace.IsFault.{other_version, by_depth, unexpected, not_lexed, at_end}
use Rattle.pq_syntax.specs.FaultPlace.FaultStands.{syntactic, lexical}
use Rattle.pq_syntax.specs.aux.Parsed.{answer, at_fault, fault_of, parsed, token_code, whole}
use Rattle.pq_syntax.specs.declared.fault.Code.{Code}
use Rattle.pq_syntax.specs.declared.fault.Code.TheVariants.{OnlyProto3, TooDeep, UnexpectedToken}
use Rattle.pq_syntax.specs.declared.fault.Parsed.{Parsed}
use Rattle.pq_syntax.specs.declared.fault.Parsed.TheVariants.{Tree, Fault}
use Rattle.pq_syntax.specs.aux.Steps.{IfFault}
use Rattle.pq_syntax.specs.declared.failure.Failure.{Failure}
use Rattle.pq_syntax.specs.declared.failure.Failure.TheVariants.{Fault as FaultAt}
use Rattle.pq_syntax.specs.declared.tree.Node.{Node}
use Rattle.pq_syntax.proofs.Sound.{long}
use Rattle.pq_syntax.proofs.Place.{whole as run_whole, read, stopped}
use Rattle.pq_syntax.proofs.OnePlace.{run_stops}
use Rattle.pq_syntax.proofs.Deeper.{deeper_whole, deeper_later, deeper_not}
use Rattle.pq_syntax.proofs.GrammarIsLL1.{clear, deeper_clear, samples}

abbrev IsRead : List ℕ → List Token → List Node → Type 0
IsRead text tokens nodes = (p : Parse Word) × Derives accepts (proto_file ∷ []) (words text tokens) (p ∷ []) × (nodes ≡ file_nodes 63 p)

one_parse : (text : List ℕ) (tokens : List Token) (l : List (Parse Word)) (nodes : List Node)
    → Derives accepts (proto_file ∷ []) (words text tokens) l
    → nodes_of 63 l ≡ nodes
    → IsRead text tokens nodes
one_parse text tokens [] nodes d e = let n = long accepts d in absurd (omega (arith, n))
one_parse text tokens (p ∷ []) nodes d e = (p, d, sym e)
one_parse text tokens (p ∷ q ∷ l) nodes d e = let n = long accepts d in absurd (omega (arith, n))

read_nodes : (text : List ℕ) (tokens : List Token) (nodes : List Node) → reading 63 63 text tokens ≡ Ok nodes → IsRead text tokens nodes
read_nodes text tokens nodes h = by_result (run accepts (proto_file ∷ []) (words text tokens)) refl h
  where
    by_result : (r : Result (List (Parse Word)) ℕ)
        → run accepts (proto_file ∷ []) (words text tokens) ≡ r
        → on_ok (nodes_of 63) r ≡ Ok nodes
        → IsRead text tokens nodes
    by_result (Ok l) e g = let same : nodes_of 63 l ≡ nodes = cc in one_parse text tokens l nodes (run_whole accepts (proto_file ∷ []) (words text tokens) l e) same
    by_result (Err n) e g = cc

-- a split of the words is a split of the tokens
abbrev Split : List ℕ → List Token → List Word → List Word → Type 0
Split text ts b f = (before : List Token) × (from : List Token) × (ts ≡ before ++ from) × (words text before ≡ b) × (words text from ≡ f)

split_words : (text : List ℕ) (ts : List Token) (b f : List Word) → words text ts ≡ b ++ f → Split text ts b f
split_words text ts [] f e = ([], ts, refl, refl, e)
split_words text [] (x ∷ xs) f e = cc
split_words text (t ∷ ts) (x ∷ xs) f e =
    let head : word text t ≡ x = cc in
    let tail : words text ts ≡ xs ++ f = cc in
    let s = split_words text ts xs f tail in
    (t ∷ s.0, s.1, ap (λ l. t ∷ l) s.2, ap (λ w. w ∷ words text s.0) head ∙ ap (λ l. x ∷ l) s.3, s.4)

abbrev StopsAt : List ℕ → List Token → ℕ → Type 0
StopsAt text tokens n =
    (before : List Token) × (from : List Token) × (tokens ≡ before ++ from) × (length from ≡ n) × IsFaultPlace accepts (proto_file ∷ [])
    (words text before) (words text from)

stops_there : (text : List ℕ) (tokens : List Token) (n : ℕ) → run accepts (proto_file ∷ []) (words text tokens) ≡ Err n → StopsAt text tokens n
stops_there text tokens n h =
    let s = stopped accepts samples (proto_file ∷ []) (words text tokens) n clear h in
    let t = split_words text tokens s.0 s.1 s.2 in
    let place : IsFaultPlace accepts (proto_file ∷ []) (words text t.0) s.1 = subst (λ b. IsFaultPlace accepts (proto_file ∷ []) b s.1) (sym t.3) s.4 in
    (t.0, t.1, t.2, sym (length-map t.1 (word text)) ∙ ap length t.4 ∙ s.3, subst (λ f. IsFaultPlace accepts (proto_file ∷ []) (words text t.0) f) (sym t.4) place)

read_stops : (text : List ℕ) (tokens : List Token) (n : ℕ) → reading 63 63 text tokens ≡ Err n → StopsAt text tokens n
read_stops text tokens n h = by_result (run accepts (proto_file ∷ []) (words text tokens)) refl h
  where
    by_result : (r : Result (List (Parse Word)) ℕ)
        → run accepts (proto_file ∷ []) (words text tokens) ≡ r
        → on_ok (nodes_of 63) r ≡ Err n
        → StopsAt text tokens n
    by_result (Ok l) e g = cc
    by_result (Err m) e g = let same : m ≡ n = cc in subst (λ x. StopsAt text tokens x) same (stops_there text tokens m e)

drop_all : (b f : List Token) → drop (length b) (b ++ f) ≡ f
drop_all [] f = refl
drop_all (x ∷ b) f = drop_all b f

-- What the grammar with higher limits says of the token t behind the tokens before.
module _ (text : List ℕ) (before : List Token) (t : Token) (ts : List Token) where
  further : Result (List (Parse Word)) ℕ
  further = run accepts (deeper_file ∷ []) (words text before ++ word text t ∷ words text ts)

  -- whether it goes on with the token
  abbrev passes_token : Bool
  passes_token = passes (length (t ∷ ts)) (reading 64 64 text (before ++ t ∷ ts))

  count : length (word text t ∷ words text ts) ≡ length (t ∷ ts)
  count = ap suc (length-map ts (word text))

  passes_is : passes_token ≡ passes (length (t ∷ ts)) (on_ok (nodes_of 64) further)
  unfolding further
  passes_is = ap (λ ws. passes (length (t ∷ ts)) (on_ok (nodes_of 64) (run accepts (deeper_file ∷ []) ws))) (map-append (word text) before (t ∷ ts))

  goes_by : (r : Result (List (Parse Word)) ℕ) → further ≡ r → passes (length (t ∷ ts)) (on_ok (nodes_of 64) r) ≡ true → GoesDeeper text before t
  unfolding further
  goes_by (Ok l) e h = deeper_whole accepts samples (deeper_file ∷ []) deeper_clear (words text before) (word text t) (words text ts) l e
  goes_by (Err n) e h =
      let less = ltb-true n (length (t ∷ ts)) h in deeper_later accepts samples (deeper_file ∷ []) deeper_clear (words text before) (word text t)
      (words text ts) n e (omega (arith, less, count))

  stays_by : (r : Result (List (Parse Word)) ℕ) → further ≡ r → passes (length (t ∷ ts)) (on_ok (nodes_of 64) r) ≡ false → GoesDeeper text before t → ⊥
  unfolding further
  stays_by (Ok l) e h = cc
  stays_by (Err n) e h =
      let least = ltb-false n (length (t ∷ ts)) h in deeper_not accepts (deeper_file ∷ []) (words text before) (word text t)
      (words text ts) samples deeper_clear n e (omega (arith, least, count))

  goes_deeper : passes_token ≡ true → GoesDeeper text before t
  goes_deeper h = goes_by further refl (sym passes_is ∙ h)

  stays : passes_token ≡ false → GoesDeeper text before t → ⊥
  stays h = stays_by further refl (sym passes_is ∙ h)

  -- the fault at the token, by whether it is one of the version and whether higher limits let the token through
  token_fault : (stop : Option (Span × LexicalCode)) (version deeper : Bool)
      → is_version_fault (length before) t.kind ≡ version
      → passes_token ≡ deeper
      → IsFault text before (t ∷ ts) stop t.span (cond version OnlyProto3 (cond deeper TooDeep UnexpectedToken))
  token_fault stop true deeper v d = other_version v
  token_fault stop false true v d = by_depth v (goes_deeper d)
  token_fault stop false false v d = unexpected v (stays d)

  passed : (deeper : Bool) → passes_token ≡ deeper → GoesDeeper text before t → passes_token ≡ true
  passed true d g = d
  passed false d g = absurd (stays d g)

  not_passed : (deeper : Bool) → passes_token ≡ deeper → (GoesDeeper text before t → ⊥) → passes_token ≡ false
  not_passed true d g = absurd (g (goes_deeper d))
  not_passed false d g = d

  token_is : (version deeper : Bool)
      → is_version_fault (length before) t.kind ≡ version
      → passes_token ≡ deeper
      → ◌≡◌ {A = Span × Code} (t.span, cond version OnlyProto3 (cond deeper TooDeep UnexpectedToken)) (t.span, token_code (length before) t.kind passes_token)
  token_is version deeper v d = rw (v, d) refl

-- the fault of the text at the tokens from behind those before, as a function
abbrev fault_from : List ℕ → List Token → List Token → Option (Span × LexicalCode) → Span × Code
fault_from text before from stop = fault_of text (length before) from stop (passes (length from) (reading 64 64 text (before ++ from)))

is_fault : (text : List ℕ) (before from : List Token) (stop : Option (Span × LexicalCode))
    → IsFault text before from stop (fault_from text before from stop).0 (fault_from text before from stop).1
is_fault text before (t ∷ ts) stop = token_fault text before t ts stop (is_version_fault (length before) t.kind) (passes_token text before t ts) refl refl
is_fault text before [] (Some f) = not_lexed
is_fault text before [] None = at_end

fault_is_from : (text : List ℕ) (before from : List Token) (stop : Option (Span × LexicalCode)) (span : Span) (code : Code)
    → IsFault text before from stop span code
    → ◌≡◌ {A = Span × Code} (span, code) (fault_from text before from stop)
fault_is_from text before from stop span code (other_version {t = t} {ts = ts} v) = token_is text before t ts true (passes_token text before t ts) v refl
fault_is_from text before from stop span code (by_depth {t = t} {ts = ts} v g) =
    token_is text before t ts false true v (passed text before t ts (passes_token text before t ts) refl g)
fault_is_from text before from stop span code (unexpected {t = t} {ts = ts} v g) =
    token_is text before t ts false false v (not_passed text before t ts (passes_token text before t ts) refl g)
fault_is_from text before from stop span code not_lexed = refl
fault_is_from text before from stop span code at_end = refl

-- the answer at a fault is that of the split
fault_split : (text : List ℕ) (b f : List Token) (stop : Option (Span × LexicalCode))
    → answer text (record { tokens = b ++ f; fault = stop }) (Err (length f)) (reading 64 64 text (b ++ f)) ≡ at_fault (fault_from text b f stop)
fault_split text b f stop =
    let same : length (b ++ f) - length f ≡ length b = omega (arith, length-append b f) in
    let deeper : Bool = passes (length f) (reading 64 64 text (b ++ f)) in
    ap (λ n. at_fault (fault_of text n (drop n (b ++ f)) stop deeper)) same ∙ ap (λ l. at_fault (fault_of text (length b) l stop deeper)) (drop_all b f)

-- the meaning of an outcome: its tree is the text's, or its error is the text's
abbrev pub Stands : List ℕ → Parsed → Type 0
Stands text p = IfTree (IsTree text) p × IfFaulty (FaultStands text) p

whole_stands : (text : List ℕ) (tokens : List Token) (stop : Option (Span × LexicalCode)) (nodes : List Node)
    → Lexes 0 text tokens stop
    → IsRead text tokens nodes
    → Stands text (whole nodes stop)
whole_stands text tokens None nodes l r = (record { tokens = tokens; lexes = l; parse = r.0; derives = r.1; is = r.2 }, tt)
whole_stands text tokens (Some f) nodes l r = (tt, lexical tokens l (r.0 ∷ [], r.1))

split_stands : (text : List ℕ) (b f : List Token) (stop : Option (Span × LexicalCode))
    → Lexes 0 text (b ++ f) stop
    → IsFaultPlace accepts (proto_file ∷ []) (words text b) (words text f)
    → Stands text (answer text (record { tokens = b ++ f; fault = stop }) (Err (length f)) (reading 64 64 text (b ++ f)))
split_stands text b f stop l p = subst (Stands text) (sym (fault_split text b f stop)) (tt, syntactic b f l p (is_fault text b f stop))

fault_stands : (text : List ℕ) (tokens : List Token) (stop : Option (Span × LexicalCode)) (n : ℕ)
    → Lexes 0 text tokens stop
    → StopsAt text tokens n
    → Stands text (answer text (record { tokens = tokens; fault = stop }) (Err n) (reading 64 64 text tokens))
fault_stands text tokens stop n l s =
    let at_split = split_stands text s.0 s.1 stop (subst (λ ts. Lexes 0 text ts stop) s.2 l) s.4 in
    let at_tokens = subst (λ ts. Stands text (answer text (record { tokens = ts; fault = stop }) (Err (length s.1)) (reading 64 64 text ts))) (sym s.2) at_split in
    subst (λ m. Stands text (answer text (record { tokens = tokens; fault = stop }) (Err m) (reading 64 64 text tokens))) s.3 at_tokens

answer_stands : (text : List ℕ) (r : Reading)
    → Lexes 0 text r.tokens r.fault
    → (x : Result (List Node) ℕ)
    → reading 63 63 text r.tokens ≡ x
    → Stands text (answer text r x (reading 64 64 text r.tokens))
answer_stands text r l (Ok nodes) h = whole_stands text r.tokens r.fault nodes l (read_nodes text r.tokens nodes h)
answer_stands text r l (Err n) h = fault_stands text r.tokens r.fault n l (read_stops text r.tokens n h)

-- each text has its tokens, and one reading
abbrev pub EachText : Type 0
EachText = (t : List ℕ) → Lexes 0 t (tokens_of t).tokens (tokens_of t).fault

abbrev pub OneLexing : Type 0
OneLexing = (t : List ℕ) (a b : List Token) (f g : Option (Span × LexicalCode)) → Lexes 0 t a f → Lexes 0 t b g → (a ≡ b) × (f ≡ g)

pub parsed_stands : EachText → (text : List ℕ) → Stands text (parsed text)
parsed_stands each text = answer_stands text (tokens_of text) (each text) (reading 63 63 text (tokens_of text).tokens) refl

-- what follows from the meaning of the outcome of an answer
pub if_tree : {E : Type 0} (text : List ℕ) (P : List Node → Type 0)
    → ((nodes : List Node) → IsTree text nodes → P nodes)
    → Stands text (parsed text)
    → (r : Result Parsed E)
    → IfOk r (λ p. p ≡ parsed text)
    → IfOk r (IfTree P)
if_tree text P f stands (Ok p) h = of_tree p (subst (IfTree (IsTree text)) (sym h) stands.0)
  where
    of_tree : (p : Parsed) → IfTree (IsTree text) p → IfTree P p
    of_tree (Tree nodes) t = f nodes t
    of_tree (Fault span code) t = tt
if_tree text P f stands (Err e) h = tt

pub if_faulty : {E : Type 0} (text : List ℕ) (P : Span → Code → Type 0)
    → ((span : Span) (code : Code) → FaultStands text span code → P span code)
    → Stands text (parsed text)
    → (r : Result Parsed E)
    → IfOk r (λ p. p ≡ parsed text)
    → IfOk r (IfFaulty P)
if_faulty text P f stands (Ok p) h = of_fault p (subst (IfFaulty (FaultStands text)) (sym h) stands.1)
  where
    of_fault : (p : Parsed) → IfFaulty (FaultStands text) p → IfFaulty P p
    of_fault (Tree nodes) t = tt
    of_fault (Fault span code) t = f span code t
if_faulty text P f stands (Err e) h = tt

-- where the tokens are those of the text, the answer at a fault is what the text is read as
pub fault_parsed : {E : Type 0} (text : List ℕ) (r : Reading) (tokens : List Token) (e : Failure) (left : ℕ) (x : Result Parsed E)
    → r ≡ tokens_of text
    → tokens ≡ r.tokens
    → e ≡ FaultAt left
    → IfFault e (λ n. reading 63 63 text tokens ≡ Err n)
    → IfOk x (λ p. p ≡ answer text (record { tokens = tokens; fault = r.fault }) (Err left) (reading 64 64 text tokens))
    → IfOk x (λ p. p ≡ parsed text)
fault_parsed text r tokens e left (Ok p) is same at h answered =
    let stops = subst (λ (f : Failure). IfFault f (λ n. reading 63 63 text tokens ≡ Err n)) at h in
    let read_all = ap (λ y. answer text (record { tokens = tokens; fault = r.fault }) y (reading 64 64 text tokens)) (sym stops) in
    let on_tokens = ap (λ ts. answer text (record { tokens = ts; fault = r.fault }) (reading 63 63 text ts) (reading 64 64 text ts)) same in
    answered ∙ read_all ∙ on_tokens ∙ ap (λ q. answer text q (reading 63 63 text q.tokens) (reading 64 64 text q.tokens)) is
fault_parsed text r tokens e left (Err m) is same at h answered = tt

module _ (one : OneLexing) (each : EachText) (text : List ℕ) where
  from_tokens : (tokens : List Token) (stop : Option (Span × LexicalCode)) (x : Result (List Node) ℕ)
      → Lexes 0 text tokens stop
      → reading 63 63 text tokens ≡ x
      → parsed text ≡ answer text (record { tokens = tokens; fault = stop }) x (reading 64 64 text tokens)
  from_tokens tokens stop x l h =
      let e = one text (tokens_of text).tokens tokens (tokens_of text).fault stop (each text) l in
      ap (λ ts. answer text (record { tokens = ts; fault = (tokens_of text).fault }) (reading 63 63 text ts) (reading 64 64 text ts)) e.0 ∙ ap
      (λ f. answer text (record { tokens = tokens; fault = f }) (reading 63 63 text tokens) (reading 64 64 text tokens)) e.1 ∙ ap
      (λ y. answer text (record { tokens = tokens; fault = stop }) y (reading 64 64 text tokens)) h

  sentence_read : (tokens : List Token) (l : List (Parse Word))
      → Derives accepts (proto_file ∷ []) (words text tokens) l
      → reading 63 63 text tokens ≡ Ok (nodes_of 63 l)
  sentence_read tokens l d = ap (on_ok (nodes_of 63)) (read accepts (proto_file ∷ []) (words text tokens) l clear d)

  tree_is : (nodes : List Node) → IsTree text nodes → parsed text ≡ Tree nodes
  tree_is nodes t = from_tokens t.tokens None (Ok nodes) t.lexes (sentence_read t.tokens (t.parse ∷ []) t.derives ∙ ap (λ (ns : List Node). Ok ns) (sym t.is))

  place_read : (b f : List Token) → IsFaultPlace accepts (proto_file ∷ []) (words text b) (words text f) → reading 63 63 text (b ++ f) ≡ Err (length f)
  place_read b f p =
      let all : words text (b ++ f) ≡ words text b ++ words text f = map-append (word text) b f in
      ap (on_ok (nodes_of 63)) (ap (run accepts (proto_file ∷ [])) all ∙ run_stops accepts (proto_file ∷ []) samples clear (words text b)
      (words text f) p) ∙ ap (λ n. Err n) (length-map f (word text))

  fault_is : (span : Span) (code : Code) → FaultStands text span code → parsed text ≡ Fault span code
  fault_is span code (syntactic b f {stop = stop} l p is) =
      from_tokens (b ++ f) stop (Err (length f)) l (place_read b f p) ∙ fault_split text b f stop ∙ ap at_fault (sym (fault_is_from text b f stop span code is))
  fault_is span code (lexical tokens {span = s} {code = c} l s') = from_tokens tokens (Some (s, c)) (Ok (nodes_of 63 s'.0)) l (sentence_read tokens s'.0 s'.1)

  pub one_tree : (nodes others : List Node) → IsTree text nodes → IsTree text others → nodes ≡ others
  one_tree nodes others a b = let e : ◌≡◌ {A = Parsed} (Tree nodes) (Tree others) = sym (tree_is nodes a) ∙ tree_is others b in cc

  pub one_fault : (span other : Span) (code another : Code) → FaultStands text span code → FaultStands text other another → (span ≡ other) × (code ≡ another)
  one_fault span other code another a b = let e : ◌≡◌ {A = Parsed} (Fault span code) (Fault other another) = sym (fault_is span code a) ∙ fault_is other another b in (cc, cc)

  pub no_fault : (nodes : List Node) (span : Span) (code : Code) → IsTree text nodes → FaultStands text span code → ⊥
  no_fault nodes span code a b = let e : ◌≡◌ {A = Parsed} (Tree nodes) (Fault span code) = sym (tree_is nodes a) ∙ fault_is span code b in cc
