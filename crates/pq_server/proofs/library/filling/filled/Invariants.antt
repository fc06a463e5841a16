use Rattle.std.proofs.Common.{◌≡◌, [], ◌++◌, length}
use Rattle.std.specs.Vec.Iter.{into_iter_items, into_iter_len}
use Rattle.pq_inputs.specs.Refusal.{max_files}
use Rattle.pq_server.specs.Library.{with_library}
use Rattle.pq_server.proofs.library.filling.filled.Given as goal

-- the files so far are set
abbrev pub invariant-files : goal.invariant-files
invariant-files l =
    record {
      all : l.yielded ++ into_iter_items l.file-iterator ≡ into_iter_items l.initial.file-iterator;
      left : into_iter_len l.file-iterator ≡ length (into_iter_items l.file-iterator);
      set : l.inputs.files ≡ with_library [] l.yielded;
      revision : l.inputs.revision ≡ length l.yielded;
      limit : l.inputs.limit ≡ max_files;
    }
