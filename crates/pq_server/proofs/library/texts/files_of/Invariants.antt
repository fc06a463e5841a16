use Rattle.std.proofs.Common.{◌≡◌, ◌++◌, length, map}
use Rattle.std.specs.Prelude.{string_bytes}
use Rattle.std.specs.Vec.Iter.{into_iter_items, into_iter_len}
use Rattle.pq_server.proofs.library.texts.files_of.Given as goal

-- the files so far have the names so far
abbrev pub invariant-names : goal.invariant-names
invariant-names g l =
    record {
      all : l.yielded ++ into_iter_items l.name-iterator ≡ into_iter_items l.initial.name-iterator;
      left : into_iter_len l.name-iterator ≡ length (into_iter_items l.name-iterator);
      named : map (λ f. f.0) l.files.items ≡ map string_bytes l.yielded;
    }
