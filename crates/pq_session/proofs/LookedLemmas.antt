-- The folders that are named.
use Rattle.std.proofs.Common.{◌≡◌, ℕ, ◌≤◌, List, take, length, sym, take_all}
use Rattle.pq_session.specs.Editor.{most_named}

pub all_named : (folders : List (List ℕ)) → length folders ≤ most_named → folders ≡ take most_named folders
all_named folders few = sym (take_all most_named folders few)
