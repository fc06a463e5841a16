use Rattle.std.proofs.Common.{◌≡◌, ℕ, ◌<◌, ◌+◌, ◌-◌, List, [], ◌∷◌, ◌++◌, inl, inr, get_or, drop, take, false, length, sym, ap, subst, ◌∙◌, arith}
use Rattle.std.specs.Prelude.{bytes_eq}
use Rattle.std.proofs.lemmas.Bool.{cases_lt}
use Rattle.std.proofs.lemmas.List.{get_or-drop, get_or_default, length-drop, take_all}
use Rattle.pq_rules.specs.Relations.{In}
use Rattle.pq_rules.specs.aux.Lists.{in_append_left, in_append_right}
use Rattle.pq_schema.specs.aux.InPackage.{dotted}
use Rattle.pq_schema.proofs.Dotted.{placed}
use Rattle.pq_schema.proofs.scope.by_package.add_places.Goals as goal

rest_of : {X : Type 0} (xs : List X) (n : ℕ) → take (length xs - n) (drop n xs) ≡ drop n xs
rest_of xs n = let rest = length-drop n xs in take_all (length xs - n) (drop n xs) (omega arith)

pub returns-then-not-is_dotted-clause-places : goal.returns-then-not-is_dotted-clause-places
returns-then-not-is_dotted-clause-places c =
    let packages = c.args.packages.now in
    let root = c.args.root.now in
    let n = c.first_from-first.result in
    let i = c.entries.entry-index in
    let e = c.entry-item.result in
    let whole = rest_of packages n in
    let here : e ≡ get_or packages (n + i) ([], 0) =
    c.entry-item.is ∙ ap (λ (es : List (List ℕ × ℕ)). get_or es i e) whole
    ∙ get_or_default (drop n packages) i e ([], 0) (subst (λ (es : List (List ℕ × ℕ)). i < length es) whole c.entries-test.true) ∙ get_or-drop n packages i ([], 0) in
    let other : bytes_eq e.0 (dotted root) ≡ false =
    ap (λ (x : List ℕ). bytes_eq x (dotted root)) (sym c.as_str.ensures.same)
    ∙ sym c.if-not-is_dotted.ensures.is in
    placed packages c.requires root n c.first_from-first.ensures.less c.first_from-first.ensures.others i c.entries.near.items c.entries.invariant.placed
    (λ within. ap (λ (x : List ℕ × ℕ). bytes_eq x.0 (dotted root)) (sym here) ∙ other)

pub entries-preserved : goal.entries-preserved
entries-preserved c =
    let old = c.entries.near.items in
    let new = c.push.new.self.items in
    let e = c.entry-item.result in
    let n = c.first_from-first.result in
    let packages = c.args.packages.now in
    let i = c.entries.entry-index in
    let whole = rest_of packages n in
    let added : new ≡ old ++ e.1 ∷ [] = c.in_ok-push.ensures.items in
    record {
      kept = λ k there. subst (λ (ks : List ℕ). In k ks) (sym added) (in_append_left k old (e.1 ∷ []) (c.entries.invariant.kept k there));
      placed = λ j below. elim (cases_lt j c.entries.entry-index) [
        | inl earlier ↦ subst (λ (ks : List ℕ). In (get_or (drop n packages) j ([], 0)).1 ks) (sym added) (in_append_left (get_or (drop n packages) j ([], 0)).1 old (e.1 ∷ []) (c.entries.invariant.placed j earlier))
        | inr last ↦
            let at : j ≡ c.entries.entry-index = omega arith in
            let here : (get_or (drop n packages) j ([], 0)).1 ≡ e.1 =
            ap (λ (m : ℕ). (get_or (drop n packages) m ([], 0)).1) at
            ∙ ap (λ (x : List ℕ × ℕ). x.1) (sym (c.entry-item.is ∙ ap (λ (es : List (List ℕ × ℕ)). get_or es i e) whole
            ∙ get_or_default (drop n packages) i e ([], 0) (subst (λ (es : List (List ℕ × ℕ)). i < length es) whole c.entries-test.true))) in
            subst (λ (ks : List ℕ). In (get_or (drop n packages) j ([], 0)).1 ks) (sym added) (in_append_right (get_or (drop n packages) j ([], 0)).1 old (e.1 ∷ []) (inl here))
      ];
    }

pub returns-clause-places : goal.returns-clause-places
returns-clause-places c =
    let packages = c.args.packages.now in
    let n = c.first_from-first.result in
    let end = c.entries-test.false in
    let rest = length-drop n packages in
    placed packages c.requires c.args.root.now n c.first_from-first.ensures.less c.first_from-first.ensures.others c.entries.entry-index c.entries.near.items c.entries.invariant.placed
    (λ within. absurd (omega arith))
