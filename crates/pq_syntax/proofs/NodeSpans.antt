-- Each node of a text's tree lies in the text, and its parts lie in it; an error lies in the text.
use Rattle.std.proofs.Common.{◌≡◌, ℕ, zero, suc, ◌<◌, ◌≤◌, true, false, List, [], ◌∷◌, ◌++◌, length, Option, Some, None, refl, sym, subst, arith, append_assoc}
use Rattle.std.specs.List.{All, AllByRecursion}
use Rattle.std.proofs.lemmas.List.Elements.{All-from_recursion}
use Rattle.pq_lex.specs.declared.token.Code.{Code as LexicalCode}
use Rattle.pq_lex.specs.declared.token.Span.{Span}
use Rattle.pq_lex.specs.declared.token.Token.{Token}
use Rattle.pq_lex.specs.Order.{InOrder}
use Rattle.pq_lex.specs.Tokens.{Lexes, span}
use Rattle.pq_syntax.specs.Rule.{Rule, Parse}
use Rattle.pq_syntax.specs.Rule.Rule.{Single, Seq, Alt, Star}
use Rattle.pq_syntax.specs.Rule.Parse.{Nil, Pair, Left, Right}
use Rattle.pq_syntax.specs.Yield.{yield_of}
use Rattle.pq_syntax.specs.FaultPlace.{IsTree, IsFault, FaultStands}
use Rattle.pq_syntax.specs.FaultPlace.IsFault.{other_version, by_depth, unexpected, not_lexed, at_end}
use Rattle.pq_syntax.specs.FaultPlace.FaultStands.{syntactic, lexical}
use Rattle.pq_syntax.specs.aux.Machine.{nullable}
use Rattle.pq_syntax.specs.Grammar.{bodied, dotted, enum, extend, file, file_item, full, import', item, labelled, mapped, message, method, method_end, oneof, option, package', reserved, service, statement, strs, tail, type', type_from, value}
use Rattle.pq_syntax.specs.Parts.{head_name, list_of, span_of}
use Rattle.pq_syntax.specs.Spans.{IsPlaced, Within, part_spans}
use Rattle.pq_syntax.specs.Tree.{body_nodes, either, enum_nodes, extend_nodes, field_nodes, file_item_nodes, file_nodes, import_nodes, item_nodes, labelled_nodes, mapped_nodes, message_nodes, method_end_nodes, method_nodes, no_nodes, node_of, oneof_nodes, option_nodes, package_nodes, reserved_nodes, service_nodes, statement_nodes, value_nodes}
use Rattle.pq_syntax.specs.Words.{Word}
use Rattle.pq_syntax.specs.declared.fault.Code.{Code}
use Rattle.pq_syntax.specs.declared.parts.Name.{Name}
use Rattle.pq_syntax.specs.declared.terminal.Terminal.{Terminal}
use Rattle.pq_syntax.specs.declared.terminal.Terminal.TheVariants.{AnyIdentifier, FieldTypeName, MapWord, MemberTypeName, ValueName}
use Rattle.pq_syntax.specs.declared.tree.Node.{Node}
use Rattle.pq_syntax.specs.declared.tree.Statement.{Statement}
use Rattle.pq_syntax.specs.declared.tree.Statement.TheVariants.{Enum, Message, Oneof, Service}
use Rattle.pq_syntax.proofs.ParseShape.{HasShape, shaped}
use Rattle.pq_syntax.proofs.WordsInOrder.{Between, LiesIn, between_left, between_words, first_lies, left_lies, lies_tight, rest_lies, right_lies, span_within}
use Rattle.pq_syntax.proofs.PartSpans.{Inside, bound_within, each_append, enclosed_within, entry_within, head_within, ranges_within, setting_within, settings_within, strings_within, tail_within}

module _ (size : ℕ) where
  abbrev whole : Span
  whole = span 0 size

  -- `Places r view` is: the nodes that `view` makes of a parse of `r` in the text are placed.
  pub record Places (r : Rule Terminal) (view : Parse Word → List Node) : Type 0 where
    pub placed : (p : Parse Word) → HasShape p r → LiesIn whole p → AllByRecursion (IsPlaced size) (view p)

  node_placed : (r : Rule Terminal) (depth : ℕ) (p : Parse Word) (s : Statement)
      → nullable r ≡ false
      → HasShape p r
      → LiesIn whole p
      → (LiesIn (span_of p) p → Inside (span_of p) (part_spans s))
      → IsPlaced size (node_of depth p s)
  node_placed r depth p s n h l parts = record {
    statement = span_within r p n h l;
    parts = All-from_recursion (λ t. Within t (span_of p)) (part_spans s) (parts (lies_tight r p n h l));
  }

  -- ---- choices, lists and bodies

  none_placed : {r : Rule Terminal} → Places r no_nodes
  none_placed = record { placed = λ p s l. tt }

  either_places : {a b : Rule Terminal} {f g : Parse Word → List Node} → Places a f → Places b g
      → (p : Parse Word) → HasShape p (Alt a b) → LiesIn whole p → AllByRecursion (IsPlaced size) (either f g p)
  either_places x y (Left p) s l = x.placed p s (left_lies l)
  either_places x y (Right p) s l = y.placed p s (right_lies l)
  either_places x y _ s l = absurd s

  either_placed : {a b : Rule Terminal} {f g : Parse Word → List Node} → Places a f → Places b g → Places (Alt a b) (either f g)
  either_placed x y = record { placed = either_places x y }

  list_places : {r : Rule Terminal} {view : Parse Word → List Node} → Places r view
      → (p : Parse Word) → HasShape p (Star r) → LiesIn whole p → AllByRecursion (IsPlaced size) (list_of view p)
  list_places x Nil s l = tt
  list_places {view = view} x (Pair p ps) s l =
      each_append (IsPlaced size) (view p) (list_of view ps) (x.placed p s.0 (first_lies l)) (list_places x ps s.1 (rest_lies l))
  list_places x _ s l = absurd s

  body_places : {r : Rule Terminal} {view : Parse Word → List Node} (keyword : Terminal) (depth : ℕ) (statement : Name → Statement)
      → ((name : Name) → part_spans (statement name) ≡ name.span ∷ [])
      → Places r view
      → (p : Parse Word) → HasShape p (bodied keyword r) → LiesIn whole p → AllByRecursion (IsPlaced size) (body_nodes depth statement view p)
  body_places {r} keyword depth statement e x (Pair h (Pair body close')) s l = (
    node_placed (bodied keyword r) depth (Pair h (Pair body close')) (statement (head_name h)) refl s l
        (λ t. subst (Inside (span_of (Pair h (Pair body close')))) (sym (e (head_name h))) (head_within _ keyword h s.0 (first_lies t), tt)),
    list_places x body s.1.0 (first_lies (rest_lies l)),
  )
  body_places keyword depth statement e x (Pair h _) s l = absurd s.1
  body_places keyword depth statement e x _ s l = absurd s

  body_placed : {r : Rule Terminal} {view : Parse Word → List Node} (keyword : Terminal) (depth : ℕ) (statement : Name → Statement)
      → ((name : Name) → part_spans (statement name) ≡ name.span ∷ [])
      → Places r view
      → Places (bodied keyword r) (body_nodes depth statement view)
  body_placed keyword depth statement e x = record { placed = body_places keyword depth statement e x }

  -- ---- options, fields and reserved ranges

  option_places : (n depth : ℕ) (p : Parse Word) → HasShape p (option n) → LiesIn whole p → AllByRecursion (IsPlaced size) (option_nodes depth p)
  option_places n depth (Pair k (Pair set semicolon)) s l =
      (node_placed (option n) depth _ _ refl s l (λ t. setting_within _ n set s.1.0 (first_lies (rest_lies t))), tt)
  option_places n depth (Pair k _) s l = absurd s.1
  option_places n depth _ s l = absurd s

  -- a field's type, from its first terminal on
  first_read : (c : Terminal) → nullable (type_from c) ≡ false
  first_read c = refl

  field_places : (c : Terminal) (n depth : ℕ) (p : Parse Word) → HasShape p (Seq (type_from c) (tail n)) → LiesIn whole p
      → AllByRecursion (IsPlaced size) (field_nodes depth p)
  field_places c n depth (Pair kind t) s l = (
    node_placed (Seq (type_from c) (tail n)) depth (Pair kind t) _ refl s l
        (λ u. (span_within (type_from c) kind refl s.0 (first_lies u), tail_within _ n t s.1 (rest_lies u))),
    tt,
  )
  field_places c n depth _ s l = absurd s

  labelled_places : (n depth : ℕ) (p : Parse Word) → HasShape p (labelled n) → LiesIn whole p → AllByRecursion (IsPlaced size) (labelled_nodes depth p)
  labelled_places n depth (Pair label (Pair kind t)) s l = (
    node_placed (labelled n) depth (Pair label (Pair kind t)) _ refl s l
        (λ u. (span_within type' kind refl s.1.0 (first_lies (rest_lies u)), tail_within _ n t s.1.1 (rest_lies (rest_lies u)))),
    tt,
  )
  labelled_places n depth (Pair label _) s l = absurd s.1
  labelled_places n depth _ s l = absurd s

  -- the type of a field that begins with the word map
  word_then : {o : Span} (p q t : Parse Word) → LiesIn o (Pair p (Right (Pair q t))) → LiesIn o (Pair p q)
  word_then {o} p q t l = record {
    between =
        between_left (yield_of p ++ yield_of q) (yield_of t) o.start o.end
        (subst (Between o.start o.end) (sym (append_assoc (yield_of p) (yield_of q) (yield_of t))) l.between);
  }

  mapped_places : (n depth : ℕ) (p : Parse Word) → HasShape p (mapped n) → LiesIn whole p → AllByRecursion (IsPlaced size) (mapped_nodes depth p)
  mapped_places n depth (Pair k (Left (Pair entry t))) s l = (
    node_placed (mapped n) depth (Pair k (Left (Pair entry t))) _ refl s l
        (λ u. let e = entry_within _ entry s.1.0 (first_lies (left_lies (rest_lies u))) in (e.0, (e.1, tail_within _ n t s.1.1 (rest_lies (left_lies (rest_lies u)))))),
    tt,
  )
  mapped_places n depth (Pair k (Right (Pair d t))) s l = (
    node_placed (mapped n) depth (Pair k (Right (Pair d t))) _ refl s l
        (λ u. (span_within (Seq (Single MapWord) dotted) (Pair k d) refl (s.0, s.1.0) (word_then k d t u), tail_within _ n t s.1.1 (rest_lies (right_lies (rest_lies u))))),
    tt,
  )
  mapped_places n depth (Pair k _) s l = absurd s.1
  mapped_places n depth _ s l = absurd s

  reserved_places : (signs : _) (depth : ℕ) (p : Parse Word) → HasShape p (reserved signs) → LiesIn whole p → AllByRecursion (IsPlaced size) (reserved_nodes depth p)
  reserved_places signs depth (Pair k (Pair (Left ranges') semicolon)) s l =
      (node_placed (reserved signs) depth _ _ refl s l (λ u. ranges_within _ signs ranges' s.1.0 (left_lies (first_lies (rest_lies u)))), tt)
  reserved_places signs depth (Pair k (Pair (Right names) semicolon)) s l =
      (node_placed (reserved signs) depth _ _ refl s l (λ u. strings_within _ names s.1.0 (right_lies (first_lies (rest_lies u)))), tt)
  reserved_places signs depth (Pair k (Pair _ semicolon)) s l = absurd s.1.0
  reserved_places signs depth (Pair k _) s l = absurd s.1
  reserved_places signs depth _ s l = absurd s

  value_places : (n depth : ℕ) (p : Parse Word) → HasShape p (value n) → LiesIn whole p → AllByRecursion (IsPlaced size) (value_nodes depth p)
  value_places n depth (Pair name (Pair equals (Pair number (Pair options semicolon)))) s l = (
    node_placed (value n) depth _ _ refl s l
        (λ u. (
          span_within (Single ValueName) name refl s.0 (first_lies u),
          (
            bound_within _ true number s.1.1.0 (first_lies (rest_lies (rest_lies u))),
            settings_within _ n options s.1.1.1.0 (first_lies (rest_lies (rest_lies (rest_lies u)))),
          ),
        )),
    tt,
  )
  value_places n depth (Pair name (Pair equals (Pair number _))) s l = absurd s.1.1.1
  value_places n depth (Pair name (Pair equals _)) s l = absurd s.1.1
  value_places n depth (Pair name _) s l = absurd s.1
  value_places n depth _ s l = absurd s

  -- ---- statements with bodies

  option_placed : (n depth : ℕ) → Places (option n) (option_nodes depth)
  option_placed n depth = record { placed = option_places n depth }

  oneof_placed : (n depth : ℕ) → Places (oneof n) (oneof_nodes depth)
  oneof_placed n depth =
      body_placed _ depth (λ name. Oneof name) (λ name. refl)
      (either_placed (option_placed n (suc depth)) (either_placed (record { placed = field_places MemberTypeName n (suc depth) }) none_placed))

  enum_placed : (n depth : ℕ) → Places (enum n) (enum_nodes depth)
  enum_placed n depth =
      body_placed _ depth (λ name. Enum name) (λ name. refl)
      (either_placed (option_placed n (suc depth)) (either_placed (record { placed = reserved_places true (suc depth) })
      (either_placed (record { placed = value_places n (suc depth) }) none_placed)))

  end_places : (n depth : ℕ) (p : Parse Word) → HasShape p (method_end n) → LiesIn whole p → AllByRecursion (IsPlaced size) (method_end_nodes depth p)
  end_places n depth (Left (Pair open' (Pair items close'))) s l =
      list_places (either_placed (option_placed n depth) none_placed) items s.1.0 (first_lies (rest_lies (left_lies l)))
  end_places n depth (Left (Pair open' _)) s l = absurd s.1
  end_places n depth (Right p) s l = tt
  end_places n depth _ s l = absurd s

  method_places : (n depth : ℕ) (p : Parse Word) → HasShape p (method n) → LiesIn whole p → AllByRecursion (IsPlaced size) (method_nodes depth p)
  method_places n depth (Pair k (Pair name (Pair input (Pair returns (Pair output end))))) s l = (
    node_placed (method n) depth _ _ refl s l
        (λ u. (
          span_within (Single AnyIdentifier) name refl s.1.0 (first_lies (rest_lies u)),
          (
            enclosed_within _ input s.1.1.0 (first_lies (rest_lies (rest_lies u))),
            (enclosed_within _ output s.1.1.1.1.0 (first_lies (rest_lies (rest_lies (rest_lies (rest_lies u))))), tt),
          ),
        )),
    end_places n (suc depth) end s.1.1.1.1.1 (rest_lies (rest_lies (rest_lies (rest_lies (rest_lies l))))),
  )
  method_places n depth (Pair k (Pair name (Pair input (Pair returns _)))) s l = absurd s.1.1.1.1
  method_places n depth (Pair k (Pair name (Pair input _))) s l = absurd s.1.1.1
  method_places n depth (Pair k (Pair name _)) s l = absurd s.1.1
  method_places n depth (Pair k _) s l = absurd s.1
  method_places n depth _ s l = absurd s

  service_placed : (n depth : ℕ) → Places (service n) (service_nodes depth)
  service_placed n depth =
      body_placed _ depth (λ name. Service name) (λ name. refl)
      (either_placed (option_placed n (suc depth)) (either_placed (record { placed = method_places n (suc depth) }) none_placed))

  extend_places : (n depth : ℕ) (p : Parse Word) → HasShape p (extend n) → LiesIn whole p → AllByRecursion (IsPlaced size) (extend_nodes depth p)
  extend_places n depth (Pair k (Pair kind block')) s l =
      (node_placed (extend n) depth _ _ refl s l (λ u. (span_within type' kind refl s.1.0 (first_lies (rest_lies u)), tt)), tt)
  extend_places n depth (Pair k _) s l = absurd s.1
  extend_places n depth _ s l = absurd s

  extend_placed : (n depth : ℕ) → Places (extend n) (extend_nodes depth)
  extend_placed n depth = record { placed = extend_places n depth }

  -- ---- messages

  statement_placed : (n depth : ℕ) → Places (statement n) (statement_nodes depth)
  statement_placed n depth =
      either_placed (enum_placed n depth) (either_placed (extend_placed n depth) (either_placed (option_placed n depth)
      (either_placed (oneof_placed n depth) (either_placed (record { placed = reserved_places false depth })
      (either_placed (record { placed = labelled_places n depth }) (either_placed (record { placed = mapped_places n depth })
      (either_placed none_placed (record { placed = field_places FieldTypeName n depth }))))))))

  item_placed : (n levels depth : ℕ) → Places (item n levels) (item_nodes levels depth)
  unfolding item item_nodes
  item_placed n zero depth = statement_placed n depth
  item_placed n (suc levels) depth =
      either_placed (body_placed _ depth (λ name. Message name) (λ name. refl) (item_placed n levels (suc depth))) (statement_placed n depth)

  message_placed : (n levels depth : ℕ) → Places (message n levels) (message_nodes levels depth)
  message_placed n levels depth = body_placed _ depth (λ name. Message name) (λ name. refl) (item_placed n levels (suc depth))

  -- ---- files

  import_places : (p : Parse Word) → HasShape p import' → LiesIn whole p → AllByRecursion (IsPlaced size) (import_nodes p)
  import_places (Pair k (Pair kind (Pair file' semicolon))) s l =
      (node_placed import' 0 _ _ refl s l (λ u. (span_within strs file' refl s.1.1.0 (first_lies (rest_lies (rest_lies u))), tt)), tt)
  import_places (Pair k (Pair kind _)) s l = absurd s.1.1
  import_places (Pair k _) s l = absurd s.1
  import_places _ s l = absurd s

  package_places : (p : Parse Word) → HasShape p package' → LiesIn whole p → AllByRecursion (IsPlaced size) (package_nodes p)
  package_places (Pair k (Pair name semicolon)) s l =
      (node_placed package' 0 _ _ refl s l (λ u. (span_within full name refl s.1.0 (first_lies (rest_lies u)), tt)), tt)
  package_places (Pair k _) s l = absurd s.1
  package_places _ s l = absurd s

  item_of_file_placed : (n levels : ℕ) → Places (file_item n levels) (file_item_nodes levels)
  item_of_file_placed n levels =
      either_placed (record { placed = import_places }) (either_placed (record { placed = package_places })
      (either_placed (option_placed n 0) (either_placed (message_placed n levels 0) (either_placed (enum_placed n 0)
      (either_placed (service_placed n 0) (either_placed (extend_placed n 0) none_placed))))))

  file_places : (n levels : ℕ) (p : Parse Word) → HasShape p (file n levels) → LiesIn whole p → AllByRecursion (IsPlaced size) (file_nodes levels p)
  file_places n levels (Pair syntax' items) s l = list_places (item_of_file_placed n levels) items s.1 (rest_lies l)
  file_places n levels _ s l = absurd s

-- ---- trees and errors

abbrev pub TokensInOrder : Type 0
TokensInOrder = (text : List ℕ) (tokens : List Token) (fault : Option (Span × LexicalCode)) → Lexes 0 text tokens fault → InOrder 0 (length text) tokens

abbrev pub FaultInOrder : Type 0
FaultInOrder =
    (text : List ℕ) (tokens : List Token) (at : Span) (code : LexicalCode) → Lexes 0 text tokens (Some (at, code)) → InOrder 0 at.start tokens ×
    (at.start < at.end) × (at.end ≤ length text)

pub tree_placed : TokensInOrder → (text : List ℕ) (nodes : List Node) → IsTree text nodes → All (IsPlaced (length text)) nodes
tree_placed order text nodes t =
    let s = shaped _ t.derives in
    let read = between_words text t.tokens 0 (length text) (order text t.tokens None t.lexes) in
    let between = between_left (yield_of t.parse) [] 0 (length text) (subst (λ ws. Between 0 (length text) ws) s.1 read) in
    let placed = file_places (length text) 63 63 t.parse s.0.0 (record { between = between }) in
    All-from_recursion (IsPlaced (length text)) nodes (subst (AllByRecursion (IsPlaced (length text))) (sym t.is) placed)

order_of : (ts : List Token) (a b : ℕ) → InOrder a b ts → a ≤ b
order_of [] a b h = h
order_of (t ∷ ts) a b h = let first = h.0 in let own = h.1 in let rest = order_of ts t.span.end b h.2 in omega (arith, first, own, rest)

token_within : (before : List Token) (t : Token) (ts : List Token) (a b : ℕ) → InOrder a b (before ++ t ∷ ts) → Within t.span (span a b)
token_within [] t ts a b h = let own = h.1 in record { from = h.0; ordered = omega (arith, own); to = order_of ts t.span.end b h.2 }
token_within (x ∷ before) t ts a b h =
    let first = h.0 in let own = h.1 in let w = token_within before t ts x.span.end b h.2 in let later = w.from in
    record { from = omega (arith, first, own, later); ordered = w.ordered; to = w.to }

lexical_within : FaultInOrder → (text : List ℕ) (tokens : List Token) (at : Span) (code : LexicalCode)
    → Lexes 0 text tokens (Some (at, code))
    → Within at (span 0 (length text))
lexical_within faulty text tokens at code l =
    let f = faulty text tokens at code l in let own = f.1 in record { from = omega arith; ordered = omega (arith, own); to = f.2 }

fault_within : TokensInOrder → FaultInOrder → (text : List ℕ) (before from : List Token) (stop : Option (Span × LexicalCode)) (at : Span) (code : Code)
    → Lexes 0 text (before ++ from) stop
    → IsFault text before from stop at code
    → Within at (span 0 (length text))
fault_within order faulty text before from stop at code l (other_version {t = t} {ts = ts} v) = token_within before t ts 0 (length text) (order text (before ++ t ∷ ts) stop l)
fault_within order faulty text before from stop at code l (by_depth {t = t} {ts = ts} v g) = token_within before t ts 0 (length text) (order text (before ++ t ∷ ts) stop l)
fault_within order faulty text before from stop at code l (unexpected {t = t} {ts = ts} v g) = token_within before t ts 0 (length text) (order text (before ++ t ∷ ts) stop l)
fault_within order faulty text before from stop at code l (not_lexed {span = s} {code = c}) = lexical_within faulty text (before ++ []) s c l
fault_within order faulty text before from stop at code l at_end = record { from = omega arith; ordered = omega arith; to = omega arith }

pub error_within : TokensInOrder → FaultInOrder → (text : List ℕ) (at : Span) (code : Code) → FaultStands text at code → Within at (span 0 (length text))
error_within order faulty text at code (syntactic before from {stop = stop} l place is) = fault_within order faulty text before from stop at code l is
error_within order faulty text at code (lexical tokens {span = s} {code = c} l whole') = lexical_within faulty text tokens s c l
