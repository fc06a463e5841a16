use Rattle.std.proofs.Common.{◌≡◌, take, length}
use Rattle.pq_schema.specs.aux.Spots.{FilesMarked}
use Rattle.pq_schema.proofs.search.spots.mark_files.Given as goal

-- the scopes of the definitions of the files so far are marked
abbrev pub invariant-files : goal.invariant-files
invariant-files l = record {
  count : length l.marks ≡ length l.fn.marks;
  marked : FilesMarked l.marks l.root (take l.i l.files);
}
