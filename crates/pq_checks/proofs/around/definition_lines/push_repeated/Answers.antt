use Rattle.std.proofs.Common.{◌≡◌, ◌++◌, Bool, false, codes, get_or, take, sym, ap, ◌∙◌, append-nil}
use Rattle.pq_schema.specs.Repeated.{is_repeated}
use Rattle.pq_schema.specs.declared.define.definitions.Definition.{Definition}
use Rattle.pq_links.specs.declared.places.Part.TheVariants as part
use Rattle.pq_checks.specs.Faults.{at, when, quoted, twice_faults}
use Rattle.pq_checks.specs.aux.Views.{twice_line}
use Rattle.pq_checks.specs.declared.errors.code.Code.TheVariants as code
use Rattle.pq_checks.proofs.Passes.{after_more, after_all}
use Rattle.pq_checks.proofs.around.definition_lines.push_repeated.Goals as goal

pub each-preserved : goal.each-preserved
each-preserved c =
    let ds = c.args.definitions.now in
    let i = c.each.i in
    let d = c.index-definitions-i.result in
    let within = c.each-test.true in
    let repeated : get_or c.args.repeated.now i false ≡ is_repeated d (take i ds) =
    c.requires.each i d within ∙ ap (λ (x : Definition). is_repeated x (take i ds)) (sym c.index-definitions-i.is) in
    after_more twice_faults _ _ _ ds i d within c.index-definitions-i.is
    (c.in_ok-push_twice.ensures.said
    ∙ ap (λ (b : Bool). c.each.faults.items ++ twice_line b d) repeated
    ∙ ap (λ t. c.each.faults.items ++ when (is_repeated d (take i ds)) (at d.item part.Name code.DefinedTwice t)) (append-nil (quoted d.full_name ++ codes " is already defined")))
    c.each.invariant

pub returns : goal.returns
returns c = record { said = after_all twice_faults _ _ _ _ c.each-test.false c.each.invariant }
