use Rattle.std.proofs.Common.{ap, ◌∙◌}
use Rattle.std.specs.BTreeMap.{get}
use Rattle.std.specs.Cmp.Lexicographic.{slice_cmp}
use Rattle.std.specs.Ordering.{nat_cmp}
use Rattle.pq_schema.specs.aux.Collecting.{first_of, defs_if}
use Rattle.pq_schema.proofs.Gathering.{finds_more, finds_all}
use Rattle.pq_schema.proofs.scope.collected.index_of.Goals as goal

pub files-preserved : goal.files-preserved
files-preserved c =
    finds_more (λ n. get (slice_cmp nat_cmp) c.files.index n) _ _ _ _ c.files-test.true
    (λ n. c.in_ok-add_file.ensures.first n ∙ ap (λ f. first_of (get (slice_cmp nat_cmp) c.files.index n) (defs_if f n)) c.file-item.is) c.files.invariant

pub returns : goal.returns
returns c = record { first = finds_all (λ n. get (slice_cmp nat_cmp) c.files.index n) _ _ c.files-test.false c.files.invariant }
