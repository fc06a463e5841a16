-- Names that begin with the same bytes, and a search among such names.
use Rattle.std.proofs.Common.{◌≡◌, ℕ, zero, suc, ◌+◌, ◌<◌, ◌≤◌, Bool, true, false, cond, true≢false, get_or, length, take, List, [], ◌∷◌, refl, sym, ap, subst, ◌∙◌, arith}
use Rattle.std.specs.Prelude.{Contains}
use Rattle.std.specs.List.Sorted.{IsSorted}
use Rattle.std.specs.Cmp.Lexicographic.{bytes_decides}
use Rattle.std.specs.Ordering.{is_eq, is_lt}
use Rattle.std.specs.declared.cmp.Ordering.{Ordering}
use Rattle.std.specs.declared.cmp.Ordering.TheVariants.{Equal}
use Rattle.std.proofs.lemmas.Cmp.{tied_itself}
use Rattle.std.proofs.lemmas.List.{get_or_default}
use Rattle.pq_schema.specs.declared.define.definitions.Definition.{Definition}
use Rattle.pq_schema.specs.aux.CodeOrder.{codes_tie, codes_total}
use Rattle.pq_schema.specs.aux.Fronts.{AreAlike, BeginAlike, IsMet, IsParted, IsSeen}
use Rattle.pq_schema.specs.aux.Index.{IsIndexOf, entries, entry_order}
use Rattle.pq_schema.specs.aux.NameCodes.{code_order}
use Rattle.pq_schema.specs.aux.NameOrder.{names_total}
use Rattle.pq_schema.specs.aux.NameParts.{name_order}
use Rattle.pq_schema.proofs.IndexLemmas.{no_entry}
use Rattle.pq_schema.proofs.Rising.{parted}

pub order_same : (a b : List ℕ) → a ≡ b → Equal ≡ name_order a b
order_same a b same = sym (ap (λ (n : List ℕ). name_order a n) (sym same) ∙ tied_itself names_total a)

-- ---- the halves of a search

pub lower_half : (index : List (List ℕ × ℕ)) (name : List ℕ) (low middle high : ℕ) (e : List ℕ × ℕ) → IsSorted entry_order index → middle < high
    → IsParted index name low high → low ≤ middle → true ≡ is_lt (code_order (get_or index middle e).0 name) → IsParted index name (middle + 1) high
lower_half index name low middle high e sorted within parts up less =
    let inside : middle < length index = let h = parts.within in omega arith in
    let here : is_lt (code_order (get_or index middle no_entry).0 name) ≡ true =
    subst (λ (f : List ℕ × ℕ). is_lt (code_order f.0 name) ≡ true) (get_or_default index middle e no_entry inside) (sym less) in
    record {
      up = omega arith;
      within = parts.within;
      less = λ k below. parted code_order codes_total index sorted name k middle no_entry (omega arith) inside here;
      others = parts.others;
    }

-- names after one that does not come before `name` do not either
not_less : (index : List (List ℕ × ℕ)) (name : List ℕ) (middle k : ℕ) (b : Bool) → IsSorted entry_order index → middle ≤ k → k < length index
    → is_lt (code_order (get_or index middle no_entry).0 name) ≡ false → is_lt (code_order (get_or index k no_entry).0 name) ≡ b → b ≡ false
not_less index name middle k false sorted from to here e = refl
not_less index name middle k true sorted from to here e =
    absurd (true≢false (sym (parted code_order codes_total index sorted name middle k no_entry from to e) ∙ here))

pub upper_half : (index : List (List ℕ × ℕ)) (name : List ℕ) (low middle high : ℕ) (e : List ℕ × ℕ) → IsSorted entry_order index → middle < high
    → IsParted index name low high → low ≤ middle → false ≡ is_lt (code_order (get_or index middle e).0 name) → IsParted index name low middle
upper_half index name low middle high e sorted within parts up less =
    let inside : middle < length index = let h = parts.within in omega arith in
    let here : is_lt (code_order (get_or index middle no_entry).0 name) ≡ false =
    subst (λ (f : List ℕ × ℕ). is_lt (code_order f.0 name) ≡ false) (get_or_default index middle e no_entry inside) (sym less) in
    record {
      up = up;
      within = let h = parts.within in omega arith;
      less = parts.less;
      others = λ k from to. not_less index name middle k (is_lt (code_order (get_or index k no_entry).0 name)) sorted from to here refl;
    }

pub parted_all : (index : List (List ℕ × ℕ)) (name : List ℕ) → IsParted index name 0 (length index)
parted_all index name = record {
  up = omega arith;
  within = omega arith;
  less = λ k below. absurd (omega (arith, below));
  others = λ k from to. absurd (omega (arith, from, to));
}

-- an entry that is found to have the name
pub seen_more : (index : List (List ℕ × ℕ)) (name : List ℕ) (middle seen next : ℕ) (e : List ℕ × ℕ) (order : Ordering)
    → order ≡ code_order (get_or index middle e).0 name → next ≡ cond (is_eq order) middle seen → IsSeen index name seen → IsSeen index name next
seen_more index name middle seen next e order is is_next so_far =
    subst (IsSeen index name) (sym is_next) (by_test (is_eq order) refl)
  where
    by_test : (b : Bool) → is_eq order ≡ b → IsSeen index name (cond b middle seen)
    by_test true t = λ within.
        ap (λ (f : List ℕ × ℕ). f.0) (get_or_default index middle no_entry e within)
        ∙ (bytes_decides (get_or index middle e).0 name).0 (codes_tie (get_or index middle e).0 name ∙ sym (ap is_eq is) ∙ t)
    by_test false t = so_far

pub none_seen : (index : List (List ℕ × ℕ)) (name : List ℕ) (k : ℕ) → k ≡ length index → IsSeen index name k
none_seen index name k is within = absurd (omega arith)

-- the entry at the upper end has the name only if it is the one that was seen
pub met_more : (index : List (List ℕ × ℕ)) (name : List ℕ) (middle seen next : ℕ) (e : List ℕ × ℕ) (order : Ordering)
    → order ≡ code_order (get_or index middle e).0 name → next ≡ cond (is_eq order) middle seen → IsMet index name middle next
met_more index name middle seen next e order is is_next within here =
    let same : (get_or index middle e).0 ≡ name = ap (λ (f : List ℕ × ℕ). f.0) (get_or_default index middle e no_entry within) ∙ here in
    let tie : is_eq order ≡ true = ap is_eq is ∙ sym (codes_tie (get_or index middle e).0 name) ∙ (bytes_decides (get_or index middle e).0 name).1 same in
    is_next ∙ ap (λ (b : Bool). cond b middle seen) tie

pub none_met : (index : List (List ℕ × ℕ)) (name : List ℕ) (first seen : ℕ) → length index ≤ first → IsMet index name first seen
none_met index name first seen past within = absurd (omega (arith, past, within))

-- an entry that was seen is the one that is found
pub seen_here : (index : List (List ℕ × ℕ)) (name : List ℕ) (seen first : ℕ) (e : List ℕ × ℕ) → IsSeen index name seen → seen ≡ first → first < length index
    → e ≡ get_or index first e → e.0 ≡ name
seen_here index name seen first e so_far same within is =
    ap (λ (f : List ℕ × ℕ). f.0) (is ∙ get_or_default index first e no_entry within)
    ∙ ap (λ (k : ℕ). (get_or index k no_entry).0) (sym same)
    ∙ so_far (omega (arith, same, within))

-- ---- the entries of definitions

entry_alike : (n m j : ℕ) (name own : List ℕ) (ds : List Definition) → BeginAlike n name ds → Contains (entries m ds) (own, j) → take n own ≡ take n name
unfolding entries
entry_alike n m j name own [] all (k, within, is) = absurd (omega arith)
entry_alike n m j name own (d ∷ ds) all (zero, within, is) =
    sym (ap (λ (e : List ℕ × ℕ). take n e.0) is) ∙ all.0
entry_alike n m j name own (d ∷ ds) all (suc k, within, is) = entry_alike n (suc m) j name own ds all.1 (k, (omega arith), is)

pub index_alike : (n : ℕ) (name : List ℕ) (index : List (List ℕ × ℕ)) (ds : List Definition) → IsIndexOf index ds → BeginAlike n name ds → AreAlike n name index
index_alike n name index ds x all k within =
    let e = get_or index k no_entry in
    let there : Contains index e = (k, within, get_or_default index k e no_entry within) in
    entry_alike n 0 e.1 name e.0 ds all (x.are.sound e there)

-- no byte is the same in all names
pub none_alike : (name : List ℕ) (ds : List Definition) → BeginAlike 0 name ds
none_alike name [] = tt
none_alike name (d ∷ ds) = (refl, none_alike name ds)
