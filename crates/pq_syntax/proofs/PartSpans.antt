-- The span of each part lies where the parse that it is read from lies: one lemma for each view of `specs/Parts`.
use Rattle.std.proofs.Common.{◌≡◌, ℕ, Bool, true, false, List, [], ◌∷◌, ◌++◌, map, refl}
use Rattle.std.specs.List.{AllByRecursion, flat_map}
use Rattle.pq_lex.specs.declared.token.Span.{Span}
use Rattle.pq_syntax.specs.Rule.{Rule, Parse}
use Rattle.pq_syntax.specs.Rule.Rule.{Single, Seq, Star}
use Rattle.pq_syntax.specs.Rule.Parse.{Leaf, Nil, Pair, Left, Right}
use Rattle.pq_syntax.specs.aux.Machine.{nullable}
use Rattle.pq_syntax.specs.Grammar.{type', optpart, separated, constant, optset, opts, opt, tail, bound, range_end, range, ranges, strings, entry_types, head, streamed, in_parentheses}
use Rattle.pq_syntax.specs.Parts.{behind, bound_of, enclosed_type_of, end_of_range, entry_of, head_name, list_of, listed, method_type_of, number_of, part_of, range_of, setting_of, settings_of, strings_of}
use Rattle.pq_syntax.specs.Spans.{Within, setting_spans, end_spans, range_spans}
use Rattle.pq_syntax.specs.Tree.{tail_of}
use Rattle.pq_syntax.specs.Words.{Word}
use Rattle.pq_syntax.specs.declared.parts.NamePart.{NamePart}
use Rattle.pq_syntax.specs.declared.parts.Strings.{Strings}
use Rattle.pq_syntax.specs.declared.terminal.Terminal.{Terminal}
use Rattle.pq_syntax.specs.declared.terminal.Terminal.TheVariants.{AnyIdentifier, Comma, Dot, KeyTypeName, AnyText, AnyInteger}
use Rattle.pq_syntax.proofs.ParseShape.{HasShape}
use Rattle.pq_syntax.proofs.WordsInOrder.{LiesIn, first_lies, rest_lies, left_lies, span_within}

-- ---- lists

pub each_append : {X : Type 0} (P : X → Type 0) (xs ys : List X) → AllByRecursion P xs → AllByRecursion P ys → AllByRecursion P (xs ++ ys)
each_append P [] ys h k = k
each_append P (x ∷ xs) ys h k = (h.0, each_append P xs ys h.1 k)

each_map : {X Y : Type 0} (P : Y → Type 0) (f : X → Y) (xs : List X) → AllByRecursion (λ x. P (f x)) xs → AllByRecursion P (map f xs)
each_map P f [] h = tt
each_map P f (x ∷ xs) h = (h.0, each_map P f xs h.1)

each_flat : {X Y : Type 0} (P : Y → Type 0) (f : X → List Y) (xs : List X) → AllByRecursion (λ x. AllByRecursion P (f x)) xs → AllByRecursion P (flat_map f xs)
each_flat P f [] h = tt
each_flat P f (x ∷ xs) h = each_append P (f x) (flat_map f xs) h.0 (each_flat P f xs h.1)

module _ (o : Span) where
  -- `Inside spans` is: each of `spans` lies in `o`.
  abbrev pub Inside : List Span → Type 0
  Inside spans = AllByRecursion (λ s. Within s o) spans

  -- ---- items and separators

  module _ {X : Type 0} (P : X → Type 0) (item : Rule Terminal) (separator : Terminal) (view : Parse Word → X)
      (each : (p : Parse Word) → HasShape p item → LiesIn o p → P (view p)) where
    more_hold : (p : Parse Word) → HasShape p (Star (Seq (Single separator) item)) → LiesIn o p → AllByRecursion P (list_of (behind view) p)
    more_hold Nil s l = tt
    more_hold (Pair (Pair c p) ps) s l = (each p s.0.1 (rest_lies (first_lies l)), more_hold ps s.1 (rest_lies l))
    more_hold (Pair _ ps) s l = absurd s.0
    more_hold _ s l = absurd s

    pub listed_hold : (p : Parse Word) → HasShape p (separated separator item) → LiesIn o p → AllByRecursion P (listed view p)
    listed_hold (Pair p ps) s l = (each p s.0 (first_lies l), more_hold ps s.1 (rest_lies l))
    listed_hold _ s l = absurd s

  -- ---- numbers

  pub number_within : (c : Terminal) (p : Parse Word) → HasShape p (Single c) → LiesIn o p → Within (number_of p).span o
  number_within c (Leaf w) s l = span_within (Single c) (Leaf w) refl s l
  number_within c _ s l = absurd s

  bound_read : (signs : Bool) → nullable (bound signs) ≡ false
  bound_read true = refl
  bound_read false = refl

  pub bound_within : (signs : Bool) (p : Parse Word) → HasShape p (bound signs) → LiesIn o p → Within (bound_of p).span o
  bound_within signs (Pair (Left m) (Leaf w)) s l = span_within (bound signs) (Pair (Left m) (Leaf w)) (bound_read signs) s l
  bound_within signs (Pair m p) s l = number_within AnyInteger p s.1 (rest_lies l)
  bound_within signs _ s l = absurd s

  end_within : (signs : Bool) (p : Parse Word) → HasShape p (range_end signs) → LiesIn o p → Inside (end_spans (end_of_range p))
  end_within signs (Left (Pair to' (Left p))) s l = (bound_within signs p s.1 (left_lies (rest_lies (left_lies l))), tt)
  end_within signs (Left (Pair to' (Right p))) s l = tt
  end_within signs (Right p) s l = tt
  end_within signs (Left (Pair to' _)) s l = absurd s.1
  end_within signs _ s l = absurd s

  range_read : (signs : Bool) → nullable (range signs) ≡ false
  range_read true = refl
  range_read false = refl

  range_within : (signs : Bool) (p : Parse Word) → HasShape p (range signs) → LiesIn o p → Inside (range_spans (range_of p))
  range_within signs (Pair p q) s l =
      (span_within (range signs) (Pair p q) (range_read signs) s l, (bound_within signs p s.0 (first_lies l), end_within signs q s.1 (rest_lies l)))
  range_within signs _ s l = absurd s

  pub ranges_within : (signs : Bool) (p : Parse Word) → HasShape p (ranges signs) → LiesIn o p → Inside (flat_map range_spans (listed range_of p))
  ranges_within signs p s l =
      each_flat (λ t. Within t o) range_spans (listed range_of p)
      (listed_hold (λ r. Inside (range_spans r)) (range signs) Comma range_of (range_within signs) p s l)

  -- ---- strings

  string_within : (p : Parse Word) → HasShape p (Single AnyText) → LiesIn o p → Within (strings_of p).span o
  string_within p s l = span_within (Single AnyText) p refl s l

  pub strings_within : (p : Parse Word) → HasShape p strings → LiesIn o p → Inside (map (λ (t : Strings). t.span) (listed strings_of p))
  strings_within p s l =
      each_map (λ t. Within t o) (λ (t : Strings). t.span) (listed strings_of p)
      (listed_hold (λ t. Within t.span o) (Single AnyText) Comma strings_of string_within p s l)

  -- ---- options

  part_within : (p : Parse Word) → HasShape p optpart → LiesIn o p → Within (part_of p).span o
  part_within (Left p) s l = span_within optpart (Left p) refl s l
  part_within (Right (Pair open' (Pair p close'))) s l = span_within optpart (Right (Pair open' (Pair p close'))) refl s l
  part_within (Right (Pair open' _)) s l = absurd s.1
  part_within _ s l = absurd s

  pub setting_within : (n : ℕ) (p : Parse Word) → HasShape p (optset n) → LiesIn o p → Inside (setting_spans (setting_of p))
  setting_within n (Pair name (Pair equals p)) s l = (
    span_within (optset n) (Pair name (Pair equals p)) refl s l,
    (
      span_within (constant n) p refl s.1.1 (rest_lies (rest_lies l)),
      each_map (λ t. Within t o) (λ (part : NamePart). part.span) (listed part_of name)
          (listed_hold (λ part. Within part.span o) optpart Dot part_of part_within name s.0 (first_lies l)),
    ),
  )
  setting_within n (Pair name _) s l = absurd s.1
  setting_within n _ s l = absurd s

  pub settings_within : (n : ℕ) (p : Parse Word) → HasShape p (opt (opts n)) → LiesIn o p → Inside (flat_map setting_spans (settings_of p))
  settings_within n (Left (Pair open' (Pair p close'))) s l =
      each_flat (λ t. Within t o) setting_spans (listed setting_of p)
      (listed_hold (λ t. Inside (setting_spans t)) (optset n) Comma setting_of (setting_within n) p s.1.0 (first_lies (rest_lies (left_lies l))))
  settings_within n (Left (Pair open' _)) s l = absurd s.1
  settings_within n (Right p) s l = tt
  settings_within n _ s l = absurd s

  -- ---- fields

  -- the name, the number and the options of a field
  pub tail_within : (n : ℕ) (p : Parse Word) → HasShape p (tail n) → LiesIn o p →
      Inside ((tail_of p).name.span ∷ (tail_of p).number.span ∷ flat_map setting_spans (tail_of p).options)
  tail_within n (Pair name (Pair equals (Pair number (Pair options semicolon)))) s l = (
    span_within (Single AnyIdentifier) name refl s.0 (first_lies l),
    (
      number_within AnyInteger number s.1.1.0 (first_lies (rest_lies (rest_lies l))),
      settings_within n options s.1.1.1.0 (first_lies (rest_lies (rest_lies (rest_lies l)))),
    ),
  )
  tail_within n (Pair name (Pair equals (Pair number _))) s l = absurd s.1.1.1
  tail_within n (Pair name (Pair equals _)) s l = absurd s.1.1
  tail_within n (Pair name _) s l = absurd s.1
  tail_within n _ s l = absurd s

  pub entry_within : (p : Parse Word) → HasShape p entry_types → LiesIn o p → Within (entry_of p).0.span o × Within (entry_of p).1.span o
  entry_within (Pair less (Pair key (Pair comma (Pair value greater)))) s l = (
    span_within (Single KeyTypeName) key refl s.1.0 (first_lies (rest_lies l)),
    span_within type' value refl s.1.1.1.0 (first_lies (rest_lies (rest_lies (rest_lies l)))),
  )
  entry_within (Pair less (Pair key (Pair comma _))) s l = absurd s.1.1.1
  entry_within (Pair less (Pair key _)) s l = absurd s.1.1
  entry_within (Pair less _) s l = absurd s.1
  entry_within _ s l = absurd s

  -- ---- bodies and methods

  pub head_within : (keyword : Terminal) (p : Parse Word) → HasShape p (head keyword) → LiesIn o p → Within (head_name p).span o
  head_within keyword (Pair word' (Pair name open')) s l = span_within (Single AnyIdentifier) name refl s.1.0 (first_lies (rest_lies l))
  head_within keyword (Pair word' _) s l = absurd s.1
  head_within keyword _ s l = absurd s

  streamed_within : (p : Parse Word) → HasShape p streamed → LiesIn o p → Within (method_type_of p).type_name.span o
  streamed_within (Left (Pair stream p)) s l = span_within type' p refl s.1 (rest_lies (left_lies l))
  streamed_within (Right p) s l = span_within streamed (Right p) refl s l
  streamed_within _ s l = absurd s

  pub enclosed_within : (p : Parse Word) → HasShape p in_parentheses → LiesIn o p → Within (enclosed_type_of p).type_name.span o
  enclosed_within (Pair open' (Pair p close')) s l = streamed_within p s.1.0 (first_lies (rest_lies l))
  enclosed_within (Pair open' _) s l = absurd s.1
  enclosed_within _ s l = absurd s
