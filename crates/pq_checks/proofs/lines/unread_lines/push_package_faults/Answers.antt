use Rattle.std.proofs.Common.{◌≡◌, ℕ, List, [], ◌∷◌, ◌++◌, sym, ap, ◌∙◌, append-nil}
use Rattle.std.proofs.lemmas.List.{nil_from_length}
use Rattle.std.proofs.lemmas.Option.{MatchOption-at_none}
use Rattle.std.proofs.lemmas.Result.{IfOk-weaker}
use Rattle.pq_checks.specs.Earlier.{of_each_after}
use Rattle.pq_checks.specs.Faults.{package_faults}
use Rattle.pq_checks.specs.Members.{of_kind}
use Rattle.pq_checks.specs.aux.Spots.{sited_in}
use Rattle.pq_checks.specs.declared.errors.fault.Fault.{Fault}
use Rattle.pq_checks.specs.declared.tree.members.Kind.TheVariants.{Package}
use Rattle.pq_checks.proofs.SaidOfParts.{of_packages, of_no_packages}
use Rattle.pq_checks.proofs.lines.unread_lines.push_package_faults.Goals as goal

pub returns-in-Some : goal.returns-in-Some
returns-in-Some c =
    let first = c.in-Some.field-0-0.now in
    let later = c.in-Some.later.now in
    let all : of_kind Package (sited_in c.args.spots.now) ≡ first ∷ later = sym c.in_ok-packages.ensures.items ∙ sym c.deref.ensures.value ∙ c.in-Some.ensures.cases.0 in
    record {
      said = IfOk-weaker c.push_later.result _ _ (λ _ h.
          h ∙ ap (λ (ys : List Fault). c.args.faults.now.items ++ ys) (sym (of_packages first later) ∙ ap (λ (ps : List ℕ). of_each_after package_faults [] ps) (sym all))) c.push_later.ensures;
    }

pub returns : goal.returns
returns c =
    let old = c.args.faults.now.items in
    let none : c.deref.result.now ≡ [] = nil_from_length c.deref.result.now (MatchOption-at_none _ _ c.in-None.is c.split_first.ensures.cases) in
    let all : of_kind Package (sited_in c.args.spots.now) ≡ [] = sym c.in_ok-packages.ensures.items ∙ sym c.deref.ensures.value ∙ none in
    record { said = sym (append-nil old) ∙ ap (λ (ys : List Fault). old ++ ys) (sym (ap (λ (ps : List ℕ). of_each_after package_faults [] ps) all ∙ of_no_packages)) }
