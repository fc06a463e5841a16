-- What changed between two looks at the disk.
--
-- A look sees of each file what the file system tells of it without its text: its stamp. A later
-- look with the same stamp shows that the file is as it was, unless the file was fresh: changed so
-- shortly before the look that a further change may have left the same times.
use Rattle.std.specs.Prelude.{ℕ, Bool, true, false, cond, not, ◌&&◌, ◌||◌, ◌==◌, bytes_eq, List, map, ℤ, pos, ◌+ℤ◌, int_le, Option, Some, None, string_bytes}
use Rattle.std.specs.BTreeMap.{get_by_text, keys}
use Rattle.std.specs.Ordering.{int_eq}
use Rattle.pq_view.specs.declared.looks.Look.{Look}
use Rattle.pq_view.specs.declared.looks.Looks.{Looks}
use Rattle.pq_view.specs.declared.looks.Stamp.{Stamp}

-- `look_at looks path` is what was seen of the file at `path`, or `None` if there was none
abbrev pub look_at : Looks → List ℕ → Option Look
look_at looks = get_by_text looks.files

-- `paths_seen looks` is the paths of the files that were seen
abbrev pub paths_seen : Looks → List (List ℕ)
paths_seen looks = map string_bytes (keys looks.files)

-- `with_look path look looks` is `looks` with `look` of the file at `path`
abbrev pub with_look : List ℕ → Look → (List ℕ → Option Look) → List ℕ → Option Look
with_look path look looks = λ q. cond (bytes_eq path q) (Some look) (looks q)

-- `is_fresh stamp now` is whether a file with `stamp` was changed at most two seconds before the
-- second `now`, or after it
abbrev pub is_fresh : Stamp → ℤ → Bool
is_fresh stamp now = int_le now (stamp.changed_seconds +ℤ pos 2)

-- `is_same_stamp a b` is whether two stamps are the same in each member
abbrev pub is_same_stamp : Stamp → Stamp → Bool
is_same_stamp a b =
    (a.device == b.device) && (a.inode == b.inode) && (a.size == b.size)
    && int_eq a.modified_seconds b.modified_seconds && int_eq a.modified_nanos b.modified_nanos
    && int_eq a.changed_seconds b.changed_seconds && int_eq a.changed_nanos b.changed_nanos

-- `is_news earlier later` is whether a file has to be read again after the later of two looks: it is
-- new or gone, it was fresh at the earlier look, or its stamp differs
abbrev pub is_news : Option Look → Option Look → Bool
is_news None None = false
is_news None (Some b) = true
is_news (Some a) None = true
is_news (Some a) (Some b) = a.is_fresh || not (is_same_stamp a.stamp b.stamp)
