-- The level of each key: a rule reads keys of lower levels, and the rule of links those of its own.
use Rattle.std.specs.Prelude.{ℕ}
use Rattle.pq_proto.specs.declared.key.ProtoKey.{ProtoKey}
use Rattle.pq_proto.specs.declared.key.ProtoKey.TheVariants as keys

-- `level_of k` is the level of the key `k`
abbrev pub level_of : ProtoKey → ℕ
level_of (keys.Input f) = 0
level_of (keys.Parse f) = 1
level_of (keys.Items f) = 2
level_of (keys.Imports f) = 3
level_of (keys.Linked f) = 4
level_of (keys.Defs f) = 5
level_of (keys.Scope f) = 6
level_of (keys.Resolved f) = 7
level_of (keys.Checks f) = 8
level_of (keys.Diagnostics f) = 9
level_of (keys.Descriptor f) = 10
level_of (keys.Symbols f) = 10
level_of (keys.Definition f place) = 10
