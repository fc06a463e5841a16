use Rattle.std.proofs.Common.{◌≡◌, length, sym, ap, ◌∙◌, arith}
use Rattle.pq_schema.specs.Contents.{Defs}
use Rattle.pq_schema.specs.declared.scope.scope.FileDefs.{FileDefs}
use Rattle.pq_schema.proofs.Inside.{short_all, short_more}
use Rattle.pq_schema.proofs.scope.files.longest_of.Goals as goal

pub files-preserved : goal.files-preserved
files-preserved c =
    let counted : c.package_name-count.result.now ≡ c.index-files-i.result.defs.package_name =
    c.package_name-count.ensures.name ∙ ap (λ (d : Defs). d.package_name) (c.get.ensures.value ∙ ap (λ (f : FileDefs). f.defs) (sym c.index-files-i.is)) in
    short_more c.args.files.now c.files.i c.files.longest c.larger-longest.result c.index-files-i.result c.files-test.true (sym c.index-files-i.is)
    c.larger-longest.ensures.first (omega (arith, c.larger-longest.ensures.second, ap length counted)) c.files.invariant

pub returns : goal.returns
returns c = record { longest = short_all c.args.files.now c.files.i c.files.longest c.files-test.false c.files.invariant }
