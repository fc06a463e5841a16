-- Statements and their types come one after the other: what a pass over them keeps, and what a
-- search among their starts finds.
use Rattle.std.proofs.Common.{◌≡◌, ℕ, zero, suc, ◌+◌, ◌-◌, ◌<◌, ◌≤◌, length, get_or, List, [], ◌∷◌, None, Some, inl, inr, ap, sym, subst, ◌∙◌, arith}
use Rattle.std.specs.Prelude.{slice_get}
use Rattle.std.specs.List.Sorted.{IsNonDecreasingBy}
use Rattle.std.proofs.lemmas.Bool.{cases_lt}
use Rattle.std.proofs.lemmas.List.{get_or_default}
use Rattle.std.proofs.lemmas.Option.{get_or_from_slice_get}
use Rattle.pq_lex.specs.declared.token.Span.{Span}
use Rattle.pq_syntax.specs.declared.tree.Node.{Node}
use Rattle.pq_syntax.specs.declared.tree.Statement.{Statement}
use Rattle.pq_syntax.specs.declared.tree.Statement.TheVariants.{Import, Package, Option as OptionStatement, Message, Field, MapField, Oneof, ReservedNumbers, ReservedNames, Enum, Value, Service, Method, Extend}
use Rattle.pq_syntax.specs.TypeSpans.{AllTypes, IsApart, IsOnlyAt}
use Rattle.pq_syntax.specs.aux.TypesRise.{Precedes, Reaches, RiseTo, TypesRise}

-- what follows from a fact about each type holds of each type
module _ {P Q : Span → Type 0} (f : (at : Span) → P at → Q at) where
  pub all_types : (s : Statement) → AllTypes P s → AllTypes Q s
  unfolding AllTypes
  all_types (Import kind file) a = tt
  all_types (Package name) a = tt
  all_types (OptionStatement setting) a = tt
  all_types (Message name) a = tt
  all_types (Field label kind name number options) a = f kind.span a
  all_types (MapField key value name number options) a = f value.span a
  all_types (Oneof name) a = tt
  all_types (ReservedNumbers ranges) a = tt
  all_types (ReservedNames names) a = tt
  all_types (Enum name) a = tt
  all_types (Value name number options) a = tt
  all_types (Service name) a = tt
  all_types (Method name input output) a = (f input.type_name.span a.0, f output.type_name.span a.1)
  all_types (Extend type_name) a = tt

-- what reaches `low` at most reaches a greater `high` at most
reaches_more : (node : Node) (low high : ℕ) → low ≤ high → Reaches node low → Reaches node high
reaches_more node low high up r =
    let start = r.start in
    record {
      start = omega (arith, up, start);
      types = all_types (λ at a. (let to = a.to in record { from = a.from; to = omega (arith, up, to) })) node.statement r.types;
    }

pub none_risen : (nodes : List Node) (high : ℕ) → RiseTo nodes 0 high
none_risen nodes high = record { reaches = λ m d below. absurd (omega arith); apart = λ m n d less below. absurd (omega arith) }

-- with the next statement, which starts after what those so far reach
pub risen_more : (nodes : List Node) (i low high : ℕ) (node : Node) → i < length nodes → node ≡ get_or nodes i node
    → (0 < i → low < node.span.start) → Reaches node high → RiseTo nodes i low → RiseTo nodes (i + 1) high
risen_more nodes i low high node within is starts own so_far =
    let at_i : (m : ℕ) (d : Node) → (m < i → ⊥) → m < i + 1 → get_or nodes m d ≡ node =
    λ m d not_less below. (let e : m ≡ i = omega (arith, not_less, below) in ap (λ k. get_or nodes k d) e ∙ get_or_default nodes i d node within ∙ sym is) in
    record {
      reaches = λ m d below. elim (cases_lt m i) [
        | inl less ↦ (let s = starts (omega (arith, less)) in let o = own.start in reaches_more (get_or nodes m d) low high (omega (arith, s, o)) (so_far.reaches m d less))
        | inr past ↦ subst (λ (x : Node). Reaches x high) (sym (at_i m d (λ l. omega (arith, l, past)) below)) own
      ];
      apart = λ m n d less below. elim (cases_lt n i) [
        | inl within_n ↦ so_far.apart m n d less within_n
        | inr past ↦ subst (λ (x : Node). Precedes (get_or nodes m d) x) (sym (at_i n d (λ l. omega (arith, l, past)) below))
            (record { high = low; reaches = so_far.reaches m d (omega (arith, less, below)); before = starts (omega (arith, less, below)) })
      ];
    }

-- all statements are passed
pub all_risen : (nodes : List Node) (i high : ℕ) → i ≡ length nodes → RiseTo nodes i high → TypesRise nodes
all_risen nodes i high past so_far = (high, subst (λ (k : ℕ). RiseTo nodes k high) past so_far)

-- the starts of the statements do not fall
pub starts_rise : (nodes : List Node) → TypesRise nodes → IsNonDecreasingBy (λ (n : Node). n.span.start) nodes
starts_rise nodes rise i j d up within = elim (cases_lt i j) [
  | inl less ↦ (let p = rise.1.apart i j d less within in let s = p.reaches.start in let b = p.before in omega (arith, s, b))
  | inr past ↦ (let e : i ≡ j = omega (arith, up, past) in let f : (get_or nodes i d).span.start ≡ (get_or nodes j d).span.start = ap (λ k. (get_or nodes k d).span.start) e in omega (arith, f))
]

none_some : {A : Type 0} (x : A) → None ≡ Some x → ⊥
none_some x e = cc

get_within : {A : Type 0} (xs : List A) (j : ℕ) (y : A) → slice_get xs j ≡ Some y → j < length xs
get_within [] j y h = absurd (none_some y h)
get_within (a ∷ xs) zero y h = omega arith
get_within (a ∷ xs) (suc j) y h = let r : j < length xs = get_within xs j y h in omega (arith, r)

module _ (nodes : List Node) (offset count : ℕ) (rise : TypesRise nodes)
    (low : (k : ℕ) (d : Node) → k < count → (get_or nodes k d).span.start ≤ offset)
    (others : (k : ℕ) (d : Node) → count ≤ k → k < length nodes → offset < (get_or nodes k d).span.start) where
  -- a statement that is before another which starts at the offset or before it
  before_it : (m n : ℕ) (node : Node) → m < n → n < count → n < length nodes → get_or nodes m node ≡ node → AllTypes (IsApart offset) node.statement
  before_it m n node less below within is =
      let p = rise.1.apart m n node less within in
      let b = p.before in
      let l = low n node below in
      subst (λ (x : Node). AllTypes (IsApart offset) x.statement) is
      (all_types (λ at a. (λ _. (let to = a.to in omega (arith, b, l, to)))) (get_or nodes m node).statement p.reaches.types)

  -- a statement that starts after the offset
  after_it : (m : ℕ) (node : Node) → count ≤ m → m < length nodes → get_or nodes m node ≡ node → AllTypes (IsApart offset) node.statement
  after_it m node past within is =
      let r = rise.1.reaches m node within in
      let o = others m node past within in
      subst (λ (x : Node). AllTypes (IsApart offset) x.statement) is
      (all_types (λ at a. (λ starts. (let from = a.from in absurd (omega (arith, o, from, starts))))) (get_or nodes m node).statement r.types)

  -- the last statement that starts at the offset or before it is the only one whose types can hold it
  pub only_last : count ≤ length nodes → IsOnlyAt nodes offset (count - 1)
  only_last bound m node there other =
      let within = get_within nodes m node there in
      let is = get_or_from_slice_get nodes m node node there in
      elim (cases_lt m count) [
        | inl below ↦ before_it m (count - 1) node (omega (arith, below, other)) (omega (arith, below)) (omega (arith, below, bound)) is
        | inr past ↦ after_it m node past within is
      ]

-- what is said of a list of statements is said of one that is the same
pub only_found : (nodes own seen : List Node) (offset count found : ℕ) → seen ≡ own → own ≡ nodes → TypesRise own → count ≤ length seen
    → ((k : ℕ) (d : Node) → k < count → (get_or seen k d).span.start ≤ offset)
    → ((k : ℕ) (d : Node) → count ≤ k → k < length seen → offset < (get_or seen k d).span.start)
    → found ≡ count - 1 → IsOnlyAt nodes offset found
only_found nodes own seen offset count found same view rise bound low others is =
    let e : seen ≡ nodes = same ∙ view in
    let risen : TypesRise seen = subst TypesRise (sym same) rise in
    subst (λ (k : ℕ). IsOnlyAt nodes offset k) (sym is)
    (subst (λ (xs : List Node). IsOnlyAt xs offset (count - 1)) e (only_last seen offset count risen low others bound))
