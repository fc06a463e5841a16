use Rattle.std.proofs.Common.{◌≡◌, sym, ap, ◌∙◌}
use Rattle.std.specs.Prelude.{Some, None, unwrap_or}
use Rattle.std.specs.Option.{option_copied}
use Rattle.std.specs.BTreeMap.{get}
use Rattle.pq_checks.specs.aux.Views.{lent_cmp}
use Rattle.pq_checks.specs.declared.around.surroundings.FileState.TheVariants.{Readable}
use Rattle.pq_checks.proofs.Importing.{state_found}
use Rattle.pq_checks.proofs.around.import_lines.state_named.Goals as goal

pub returns-in-Some : goal.returns-in-Some
returns-in-Some c = record {
  state = λ imported map.
      let found : get lent_cmp c.args.states.now c.args.name ≡ Some c.in-Some.state.now = sym c.get.ensures.value ∙ ap option_copied c.in-Some.is in
      sym (state_found imported c.args.name.now ∙ ap (λ s. unwrap_or s Readable) (sym (map c.args.name) ∙ found));
}

pub returns-in-None : goal.returns-in-None
returns-in-None c = record {
  state = λ imported map.
      let missing : get lent_cmp c.args.states.now c.args.name ≡ None = sym c.get.ensures.value ∙ ap option_copied c.in-None.is in
      sym (state_found imported c.args.name.now ∙ ap (λ s. unwrap_or s Readable) (sym (map c.args.name) ∙ missing));
}
