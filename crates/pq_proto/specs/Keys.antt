-- The parts of a key, and the order of keys: by the number of the query, then by the bytes of the
-- file's name, then by the line and the column of the place.
use Rattle.std.specs.Prelude.{ℕ, List}
use Rattle.std.specs.Cmp.Lexicographic.{slice_cmp}
use Rattle.std.specs.Ordering.{nat_cmp, ordering_then}
use Rattle.std.specs.declared.cmp.Ordering.{Ordering}
use Rattle.pq_proto.specs.declared.key.Place.{Place}
use Rattle.pq_proto.specs.declared.key.ProtoKey.{ProtoKey}
use Rattle.pq_proto.specs.declared.key.ProtoKey.TheVariants as keys

-- `number_of k` is the number of the query of the key `k`
abbrev pub number_of : ProtoKey → ℕ
number_of (keys.Input f) = 0
number_of (keys.Parse f) = 1
number_of (keys.Items f) = 2
number_of (keys.Imports f) = 3
number_of (keys.Linked f) = 4
number_of (keys.Defs f) = 5
number_of (keys.Scope f) = 6
number_of (keys.Resolved f) = 7
number_of (keys.Checks f) = 8
number_of (keys.Diagnostics f) = 9
number_of (keys.Descriptor f) = 10
number_of (keys.Symbols f) = 11
number_of (keys.Definition f place) = 12

-- `own_name k` is the file of the key `k`
abbrev pub own_name : ProtoKey → List ℕ
own_name (keys.Input f) = f
own_name (keys.Parse f) = f
own_name (keys.Items f) = f
own_name (keys.Imports f) = f
own_name (keys.Linked f) = f
own_name (keys.Defs f) = f
own_name (keys.Scope f) = f
own_name (keys.Resolved f) = f
own_name (keys.Checks f) = f
own_name (keys.Diagnostics f) = f
own_name (keys.Descriptor f) = f
own_name (keys.Symbols f) = f
own_name (keys.Definition f place) = f

-- `first_place` is the place of each key of a file as a whole
abbrev pub first_place : Place
first_place = record { line = 0; character = 0 }

-- `own_place k` is the place of the key `k`
abbrev pub own_place : ProtoKey → Place
own_place (keys.Definition f place) = place
own_place _ = first_place

-- `place_cmp p q` compares the places `p` and `q` by their lines, then their columns
abbrev pub place_cmp : Place → Place → Ordering
place_cmp p q = ordering_then (nat_cmp p.line q.line) (nat_cmp p.character q.character)

-- `key_cmp a b` compares the keys `a` and `b`
abbrev pub key_cmp : ProtoKey → ProtoKey → Ordering
key_cmp a b =
    ordering_then (nat_cmp (number_of a) (number_of b))
    (ordering_then (slice_cmp nat_cmp (own_name a) (own_name b)) (place_cmp (own_place a) (own_place b)))
