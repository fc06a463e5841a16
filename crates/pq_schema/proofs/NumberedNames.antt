-- Definitions by the numbers of their scopes: where the number of the scope and the own name of two
-- definitions are the same, their full names are.
use Rattle.std.proofs.Common.{◌≡◌, ℕ, zero, suc, ◌+◌, ◌<◌, ◌≤◌, Bool, true, false, cond, nat_lt, length, get_or, unwrap_or, List, [], ◌∷◌, ◌++◌, refl, sym, ap, subst, ◌∙◌, inl, inr, arith, append-nil, append_assoc, true≢false}
use Rattle.std.specs.Prelude.{flat_map}
use Rattle.std.proofs.Math.Seq.{get_or-append_seam}
use Rattle.std.proofs.lemmas.Bool.{cases_lt, cases_eq}
use Rattle.std.proofs.lemmas.List.{get_or_append_left, get_or_past, length-append, map-append}
use Rattle.std.proofs.lemmas.Option.{get_or_from_slice_get, slice_get_within}
use Rattle.pq_rules.specs.Relations.{Each}
use Rattle.pq_rules.proofs.Characterisation.{each_append}
use Rattle.pq_rules.proofs.ListLemmas.{get_last}
use Rattle.pq_syntax.specs.declared.tree.Node.{Node}
use Rattle.pq_syntax.specs.Places.{Item, places}
use Rattle.pq_syntax.specs.Stacks.{closed, innermost}
use Rattle.pq_syntax.proofs.Walk.{Walked, inner_at, item_at, walked_all, walked_more, walked_none}
use Rattle.pq_schema.specs.declared.define.copies.Numbered.{Numbered}
use Rattle.pq_schema.specs.declared.define.copies.Numbering.{Numbering}
use Rattle.pq_schema.specs.declared.define.definitions.Definition.{Definition}
use Rattle.pq_schema.specs.Definitions.{defined_at, defined_by, qualified, scope_of}
use Rattle.pq_schema.specs.aux.Copies.{Adds, AddsAll, AddsName, AddsWithin, AreCopies, At, IsCopy, IsKnown, IsNumbering, full_names}
use Rattle.pq_schema.proofs.Cases.{either}

-- ---- what is at a place

pub one_at : {A : Type 0} (xs : List A) (n : ℕ) (x y : A) → At xs n x → At xs n y → x ≡ y
one_at xs n x y a b = sym (get_or_from_slice_get xs n x x a) ∙ get_or_from_slice_get xs n y x b

at_more : {A : Type 0} (xs more : List A) (n : ℕ) (x : A) → At xs n x → At (xs ++ more) n x
at_more [] more n x at = let within = slice_get_within [] n x at in absurd (omega arith)
at_more (y ∷ xs) more zero x at = at
at_more (y ∷ xs) more (suc n) x at = at_more xs more n x at

-- ---- one more definition

module _ (root : List ℕ) (names more : List (List ℕ)) where
  copy_more : (n : ℕ) → IsCopy names n → IsCopy (names ++ more) n
  copy_more n c = (c.0, c.1, c.2, at_more names more c.0 c.2 c.3, at_more names more n c.2 c.4)

  known_more : (scope : ℕ) (own : List ℕ) (n : ℕ) → IsKnown root names scope own n → IsKnown root (names ++ more) scope own n
  known_more scope own n k = (k.0, k.1, at_more (root ∷ names) more scope k.0 k.2, k.3, at_more names more k.1 (qualified k.0 own) k.4)

  all_known_more : (ks : List Numbered) → Each (λ (k : Numbered). IsKnown root names k.scope k.name k.number) ks
      → Each (λ (k : Numbered). IsKnown root (names ++ more) k.scope k.name k.number) ks
  all_known_more [] all = tt
  all_known_more (k ∷ ks) all = (known_more k.scope k.name k.number all.0, all_known_more ks all.1)

copies_more : (flags : List Bool) (b : Bool) (names : List (List ℕ)) (name : List ℕ) → length flags ≡ suc (length names) → AreCopies flags names
    → (b ≡ true → IsCopy (names ++ name ∷ []) (length names)) → AreCopies (flags ++ b ∷ []) (names ++ name ∷ [])
copies_more flags b names name count are here n flagged = elim (cases_lt (suc n) (length flags)) [
  | inl before ↦ copy_more [] names (name ∷ []) n (are n (sym (get_or_append_left flags (b ∷ []) false (suc n) before) ∙ flagged))
  | inr past ↦ elim (cases_eq n (length names)) [
    | inl last ↦ subst (IsCopy (names ++ name ∷ [])) (sym last)
        (here (sym (get_or-append_seam flags b [] false) ∙ ap (λ (k : ℕ). get_or (flags ++ b ∷ []) k false) (count ∙ ap suc (sym last)) ∙ flagged))
    | inr other ↦
        let long = length-append flags (b ∷ []) in
        absurd (true≢false (sym flagged ∙ get_or_past (flags ++ b ∷ []) (suc n) false (omega (arith, past, other, count, long))))
  ]
]

module _ (root : List ℕ) (names : List (List ℕ)) (outer : List ℕ) (scope : ℕ) (own : List ℕ) (at : At (root ∷ names) scope outer) (old new : Numbering) where
  -- a definition of a name that is known
  pub added_copy : (n : ℕ) → new.names.items ≡ old.names.items → new.copies.items ≡ old.copies.items ++ true ∷ [] → IsKnown root names scope own n
      → Adds root names old new (qualified outer own ∷ []) n (qualified outer own)
  added_copy n same flags k are =
      let name = qualified outer own in
      let one : k.0 ≡ outer = one_at (root ∷ names) scope k.0 outer k.2 at in
      let there : At names k.1 name = subst (λ (o : List ℕ). At names k.1 (qualified o own)) one k.4 in
      let within = slice_get_within names k.1 name there in
      let longer = length-append names (name ∷ []) in
      let flags_longer = length-append old.copies.items (true ∷ []) in
      let count = are.count in (
        record {
          count = ap length flags ∙ flags_longer ∙ omega (arith, count, longer);
          known = subst (Each (λ (k : Numbered). IsKnown root (names ++ name ∷ []) k.scope k.name k.number)) (sym same) (all_known_more root names (name ∷ []) old.names.items are.known);
          copies = subst (λ (fs : List Bool). AreCopies fs (names ++ name ∷ [])) (sym flags)
              (copies_more old.copies.items true names name are.count are.copies
              (λ _. (k.1, within, name, at_more names (name ∷ []) k.1 name there, get_last names name)));
        },
        subst (λ (i : ℕ). At (root ∷ (names ++ name ∷ [])) i name) (sym k.3) (at_more names (name ∷ []) k.1 name there),
      )

  -- a definition of a name that is kept
  pub added_name : (n : ℕ) (k : Numbered) → k.scope ≡ scope → k.name ≡ own → k.number ≡ n → n ≡ length old.copies.items
      → new.names.items ≡ old.names.items ++ k ∷ [] → new.copies.items ≡ old.copies.items ++ false ∷ []
      → Adds root names old new (qualified outer own ∷ []) n (qualified outer own)
  added_name n k in_scope is number last kept flags are =
      let name = qualified outer own in
      let place : n ≡ suc (length names) = last ∙ are.count in
      let longer = length-append names (name ∷ []) in
      let flags_longer = length-append old.copies.items (false ∷ []) in
      let count = are.count in
      let known : IsKnown root (names ++ name ∷ []) scope own n = (outer, length names, at_more (root ∷ names) (name ∷ []) scope outer at, place, get_last names name) in
      let here : IsKnown root (names ++ name ∷ []) k.scope k.name k.number =
      subst (λ (s : ℕ). IsKnown root (names ++ name ∷ []) s k.name k.number) (sym in_scope)
      (subst (λ (o : List ℕ). IsKnown root (names ++ name ∷ []) scope o k.number) (sym is)
      (subst (λ (i : ℕ). IsKnown root (names ++ name ∷ []) scope own i) (sym number) known)) in (
        record {
          count = ap length flags ∙ flags_longer ∙ omega (arith, count, longer);
          known = subst (Each (λ (k : Numbered). IsKnown root (names ++ name ∷ []) k.scope k.name k.number)) (sym kept)
              (each_append (λ (k : Numbered). IsKnown root (names ++ name ∷ []) k.scope k.name k.number) old.names.items (k ∷ [])
              (all_known_more root names (name ∷ []) old.names.items are.known) (here, tt));
          copies = subst (λ (fs : List Bool). AreCopies fs (names ++ name ∷ [])) (sym flags)
              (copies_more old.copies.items false names name are.count are.copies (λ e. absurd (true≢false (sym e))));
        },
        subst (λ (i : ℕ). At (root ∷ (names ++ name ∷ [])) i name) (sym place) (get_last names name),
      )

-- the answer of a look-up
pub known_at : (root : List ℕ) (names : List (List ℕ)) (ks : List Numbered) (place : ℕ) (k : Numbered) (scope : ℕ) (own : List ℕ)
    → Each (λ (k : Numbered). IsKnown root names k.scope k.name k.number) ks → place < length ks → get_or ks place k ≡ k → k.scope ≡ scope → k.name ≡ own
    → IsKnown root names scope own k.number
known_at root names [] place k scope own all within at in_scope is = absurd (omega arith)
known_at root names (x ∷ ks) zero k scope own all within at in_scope is =
    subst (λ (s : ℕ). IsKnown root names s own k.number) in_scope
    (subst (λ (o : List ℕ). IsKnown root names k.scope o k.number) is
    (subst (λ (y : Numbered). IsKnown root names y.scope y.name y.number) at all.0))
known_at root names (x ∷ ks) (suc place) k scope own all within at in_scope is = known_at root names ks place k scope own all.1 (omega arith) at in_scope is

-- ---- what a statement adds

pub adds_none : (old : Numbering) (root : List ℕ) (names : List (List ℕ)) (outer : List ℕ) (scope : ℕ) → At (root ∷ names) scope outer
    → Adds root names old old [] scope outer
adds_none old root names outer scope at are =
    subst (λ (ns : List (List ℕ)). IsNumbering root ns old × At (root ∷ ns) scope outer) (sym (append-nil names)) (are, at)

-- the number of the scope in place of that of the definition
pub within_scope : (old new : Numbering) (scope : ℕ) (own : List ℕ) (n : ℕ) → AddsName old new scope own n → AddsWithin old new scope own scope
within_scope old new scope own n adds root names outer at are =
    ((adds root names outer at are).0, at_more (root ∷ names) (qualified outer own ∷ []) scope outer at)

-- two definitions
pub adds_two : (old middle new : Numbering) (scope : ℕ) (first second : List ℕ) (n m : ℕ) → AddsName old middle scope first n → AddsWithin middle new scope second m
    → (root : List ℕ) (names : List (List ℕ)) (outer : List ℕ) → At (root ∷ names) scope outer
    → Adds root names old new (qualified outer first ∷ qualified outer second ∷ []) m outer
adds_two old middle new scope first second n m one two root names outer at are =
    let name = qualified outer first in
    subst (λ (ns : List (List ℕ)). IsNumbering root ns new × At (root ∷ ns) m outer) (append_assoc names (name ∷ []) (qualified outer second ∷ []))
    (two root (names ++ name ∷ []) outer (at_more (root ∷ names) (name ∷ []) scope outer at) (one root names outer at are).0)

-- ---- the walk

-- `Opens names stack scopes` is that `stack` has the numbers of the names of `scopes`
abbrev Opens : List (List ℕ) → List (ℕ × ℕ) → List (ℕ × List ℕ) → Type 0
Opens names [] [] = Unit {0}
Opens names [] (s ∷ ss) = ⊥
Opens names (e ∷ es) [] = ⊥
Opens names (e ∷ es) (s ∷ ss) = (e.0 ≡ s.0) × At names e.1 s.1 × Opens names es ss

opens_more : (names more : List (List ℕ)) (es : List (ℕ × ℕ)) (ss : List (ℕ × List ℕ)) → Opens names es ss → Opens (names ++ more) es ss
opens_more names more [] [] are = tt
opens_more names more [] (s ∷ ss) are = absurd are
opens_more names more (e ∷ es) [] are = absurd are
opens_more names more (e ∷ es) (s ∷ ss) are = (are.0, at_more names more e.1 s.1 are.1, opens_more names more es ss are.2)

opens_closed : (names : List (List ℕ)) (depth : ℕ) (es : List (ℕ × ℕ)) (ss : List (ℕ × List ℕ)) → Opens names es ss → Opens names (closed depth es) (closed depth ss)
unfolding closed
opens_closed names depth [] [] are = tt
opens_closed names depth [] (s ∷ ss) are = absurd are
opens_closed names depth (e ∷ es) [] are = absurd are
opens_closed names depth (e ∷ es) (s ∷ ss) are =
    subst (λ (d : ℕ). Opens names (cond (nat_lt e.0 depth) (e ∷ es) (closed depth es)) (cond (nat_lt d depth) (s ∷ ss) (closed depth ss))) are.0
    (either (nat_lt e.0 depth) (λ b. Opens names (cond b (e ∷ es) (closed depth es)) (cond b (s ∷ ss) (closed depth ss)))
    (λ _. are) (λ _. opens_closed names depth es ss are.2))

opens_inner : (names : List (List ℕ)) (root : List ℕ) (es : List (ℕ × ℕ)) (ss : List (ℕ × List ℕ)) → At names 0 root → Opens names es ss
    → At names (unwrap_or (innermost es) 0) (unwrap_or (innermost ss) root)
opens_inner names root [] [] at are = at
opens_inner names root [] (s ∷ ss) at are = absurd are
opens_inner names root (e ∷ es) [] at are = absurd are
opens_inner names root (e ∷ es) (s ∷ ss) at are = are.1

abbrev keep : Item → List ℕ → List ℕ
keep i outer = scope_of i.node.statement outer

abbrev emit : List ℕ → Item → List Definition
emit scope i = defined_by scope i.number i.node.statement

-- `IsWalk root nodes stack item numbering` is that the walk over `nodes` in the package `root` has
-- come to the statement `item`, with the numbers `stack` of the open scopes
pub record IsWalk (root : List ℕ) (nodes : List Node) (stack : List (ℕ × ℕ)) (item : ℕ) (numbering : Numbering) : Type 0 where
  pub out : List Definition
  pub scopes : List (ℕ × List ℕ)
  pub walked : Walked keep root emit nodes scopes item out
  pub opens : Opens (root ∷ full_names out) stack scopes
  pub numbering_is : IsNumbering root (full_names out) numbering

pub walk_none : (root : List ℕ) (nodes : List Node) (stack : List (ℕ × ℕ)) (numbering : Numbering) → stack ≡ [] → numbering.names.items ≡ [] → numbering.copies.items ≡ false ∷ []
    → IsWalk root nodes stack 0 numbering
walk_none root nodes stack numbering empty none flags = record {
  out = [];
  scopes = [];
  walked = walked_none keep root emit nodes;
  opens = subst (λ (es : List (ℕ × ℕ)). Opens (root ∷ []) es []) (sym empty) tt;
  numbering_is = record {
    count = ap length flags;
    known = subst (Each (λ (k : Numbered). IsKnown root [] k.scope k.name k.number)) (sym none) tt;
    copies = λ n flagged. absurd (true≢false (sym flagged ∙ ap (λ (fs : List Bool). get_or fs (suc n) false) flags ∙ get_or_past [] n false (omega arith)));
  };
}

pub walk_more : (root : List ℕ) (nodes : List Node) (stack opened : List (ℕ × ℕ)) (item : ℕ) (old new : Numbering) (node : Node) (scope inside : ℕ)
    → item < length nodes → node ≡ get_or nodes item node
    → scope ≡ unwrap_or (innermost (closed node.depth stack)) 0
    → opened ≡ (node.depth, inside) ∷ closed node.depth stack
    → AddsAll old new scope node.statement inside
    → IsWalk root nodes stack item old → IsWalk root nodes opened (item + 1) new
walk_more root nodes stack opened item old new node scope inside within is scope_is opened_is adds w =
    let names = full_names w.out in
    let inner = inner_at root w.scopes node.depth in
    let shut = opens_closed (root ∷ names) node.depth stack w.scopes w.opens in
    let at : At (root ∷ names) scope inner =
    subst (λ (s : ℕ). At (root ∷ names) s inner) (sym scope_is)
    (opens_inner (root ∷ names) root (closed node.depth stack) (closed node.depth w.scopes) refl shut) in
    let defined = defined_by inner item node.statement in
    let added = adds root names inner item at w.numbering_is in
    let all : full_names (w.out ++ defined) ≡ names ++ full_names defined = map-append (λ (d : Definition). d.full_name) w.out defined in
    record {
      out = w.out ++ defined;
      scopes = (node.depth, keep (item_at item node) inner) ∷ closed node.depth w.scopes;
      walked = walked_more keep root emit nodes w.scopes _ item w.out (w.out ++ defined) node inner within is refl refl refl w.walked;
      opens = subst (λ (es : List (ℕ × ℕ)). Opens (root ∷ full_names (w.out ++ defined)) es ((node.depth, keep (item_at item node) inner) ∷ closed node.depth w.scopes)) (sym opened_is)
          (subst (λ (ns : List (List ℕ)). Opens (root ∷ ns) ((node.depth, inside) ∷ closed node.depth stack) ((node.depth, keep (item_at item node) inner) ∷ closed node.depth w.scopes)) (sym all)
          (refl, added.1, opens_more (root ∷ names) (full_names defined) (closed node.depth stack) (closed node.depth w.scopes) shut));
      numbering_is = subst (λ (ns : List (List ℕ)). IsNumbering root ns new) (sym all) added.0;
    }

pub walk_all : (root : List ℕ) (nodes : List Node) (stack : List (ℕ × ℕ)) (item : ℕ) (numbering : Numbering) → length nodes ≤ item
    → IsWalk root nodes stack item numbering → AreCopies numbering.copies.items (full_names (flat_map (defined_at root) (places nodes)))
walk_all root nodes stack item numbering past w =
    subst (λ (ds : List Definition). AreCopies numbering.copies.items (full_names ds)) (walked_all keep root emit nodes w.scopes item w.out past w.walked) w.numbering_is.copies
