-- The order that keys derive is that of their table: the variants stand in the order of the numbers
-- of their queries, and fields are compared from the first.
use Rattle.std.specs.Prelude.{◌≡◌, ◌+◌, ℕ, List, [], ◌∷◌, refl}
use Rattle.std.proofs.Common.{◌<◌, inl, inr, ◌∙◌, ap, ap₂, sym, arith}
use Rattle.std.specs.Cmp.{nat_cmp_is, nat_cmp_total}
use Rattle.std.specs.Cmp.Lexicographic.{slice_cmp}
use Rattle.std.specs.Ordering.{MatchOrdering, nat_cmp, ordering_then}
use Rattle.std.specs.declared.cmp.Ordering.{Ordering}
use Rattle.std.specs.declared.cmp.Ordering.TheVariants.{Less, Equal, Greater}
use Rattle.std.proofs.lemmas.Cmp.{tied_itself}
use denote.Enum.Declared.{Choice}
use denote.Enum.Compared.{by, Each}
use denote.Struct.Field.{Field}
use denote.Struct.Values.{Values}
use Rattle.pq_proto.specs.Keys.{first_place, key_cmp, number_of, own_name, own_place, place_cmp}
use Rattle.pq_proto.specs.aux.KeyOrder.{key_orders}
use Rattle.pq_proto.specs.declared.key.Place.{Place}
use Rattle.pq_proto.specs.declared.key.ProtoKey.{ProtoKey}
use Rattle.pq_proto.specs.declared.key.ProtoKey.TheVariants as keys
use Rattle.pq_proto.specs.contracts.key.ProtoKeyOrd.TheImpl as order
use Rattle.pq_proto.specs.contracts.key.ProtoKey as key

-- ---- numbers

is_less : (x y : ℕ) → x < y → nat_cmp x y ≡ Less
is_less x y l = sym (nat_cmp_is x y Less l)

is_greater : (x y : ℕ) → y < x → nat_cmp x y ≡ Greater
is_greater x y l = sym (nat_cmp_is x y Greater l)

then_nothing : (o : Ordering) → o ≡ ordering_then o Equal
then_nothing Less = refl
then_nothing Equal = refl
then_nothing Greater = refl

-- ---- variants and their numbers

-- the number of a variant, where the first has the number `n`
abbrev number_at : (Fss : List (List Field)) → ℕ → Choice Fss → ℕ
number_at [] n c = n
number_at (Fs ∷ Fss) n (inl x) = n
number_at (Fs ∷ Fss) n (inr y) = number_at Fss (1 + n) y

is_above : (Fss : List (List Field)) (n m : ℕ) (c : Choice Fss) → n < m → n < number_at Fss m c
is_above [] n m c l = absurd c
is_above (Fs ∷ Fss) n m (inl x) l = l
is_above (Fs ∷ Fss) n m (inr y) l = is_above Fss n (1 + m) y (omega arith)

-- ---- what else the order looks at

abbrev Contents : Type 0
Contents = List ℕ × Place

abbrev contents_cmp : Contents → Contents → Ordering
contents_cmp p q = ordering_then (slice_cmp nat_cmp p.0 q.0) (place_cmp p.1 q.1)

-- `Agrees Fss rs read` is that each order of `rs` is that of what `read` reads
abbrev Agrees : (Fss : List (List Field)) → Each Ordering Fss → (Choice Fss → Contents) → Type 0
Agrees [] rs read = Unit {0}
Agrees (Fs ∷ Fss) rs read = ((x y : Values Fs) → rs.0 x y ≡ contents_cmp (read (inl x)) (read (inl y))) × Agrees Fss rs.1 (λ c. read (inr c))

abbrev ranked : (Fss : List (List Field)) → ℕ → (Choice Fss → Contents) → Choice Fss → Choice Fss → Ordering
ranked Fss n read c d = ordering_then (nat_cmp (number_at Fss n c) (number_at Fss n d)) (contents_cmp (read c) (read d))

order_at : (Fss : List (List Field)) (rs : Each Ordering Fss) (n : ℕ) (read : Choice Fss → Contents) → Agrees Fss rs read → (c d : Choice Fss)
    → by Less Greater Fss rs c d ≡ ranked Fss n read c d
order_at [] rs n read all c d = absurd c
order_at (Fs ∷ Fss) rs n read all (inl x) (inl y) =
    all.0 x y ∙ ap (λ o. ordering_then o (contents_cmp (read (inl x)) (read (inl y)))) (sym (tied_itself nat_cmp_total n))
order_at (Fs ∷ Fss) rs n read all (inl x) (inr y) =
    ap (λ o. ordering_then o (contents_cmp (read (inl x)) (read (inr y)))) (sym (is_less n (number_at Fss (1 + n) y) (is_above Fss n (1 + n) y (omega arith))))
order_at (Fs ∷ Fss) rs n read all (inr x) (inl y) =
    ap (λ o. ordering_then o (contents_cmp (read (inr x)) (read (inl y)))) (sym (is_greater (number_at Fss (1 + n) x) n (is_above Fss n (1 + n) x (omega arith))))
order_at (Fs ∷ Fss) rs n read all (inr x) (inr y) = order_at Fss rs.1 (1 + n) (λ c. read (inr c)) all.1 x y

-- ---- the keys

-- the file and the place of a variant
abbrev read_at : Choice key.enum.parts → Contents
read_at (inl x) = (x.0, first_place)
read_at (inr (inl x)) = (x.0, first_place)
read_at (inr (inr (inl x))) = (x.0, first_place)
read_at (inr (inr (inr (inl x)))) = (x.0, first_place)
read_at (inr (inr (inr (inr (inl x))))) = (x.0, first_place)
read_at (inr (inr (inr (inr (inr (inl x)))))) = (x.0, first_place)
read_at (inr (inr (inr (inr (inr (inr (inl x))))))) = (x.0, first_place)
read_at (inr (inr (inr (inr (inr (inr (inr (inl x)))))))) = (x.0, first_place)
read_at (inr (inr (inr (inr (inr (inr (inr (inr (inl x))))))))) = (x.0, first_place)
read_at (inr (inr (inr (inr (inr (inr (inr (inr (inr (inl x)))))))))) = (x.0, first_place)
read_at (inr (inr (inr (inr (inr (inr (inr (inr (inr (inr (inl x))))))))))) = (x.0, first_place)
read_at (inr (inr (inr (inr (inr (inr (inr (inr (inr (inr (inr (inl x)))))))))))) = (x.0, first_place)
read_at (inr (inr (inr (inr (inr (inr (inr (inr (inr (inr (inr (inr (inl x))))))))))))) = (x.0, x.1.0)
read_at (inr (inr (inr (inr (inr (inr (inr (inr (inr (inr (inr (inr (inr x))))))))))))) = absurd x

texts_agree : (f h : List ℕ) → slice_cmp nat_cmp f h ≡ contents_cmp (f, first_place) (h, first_place)
texts_agree f h = then_nothing (slice_cmp nat_cmp f h)

all_agree : Agrees key.enum.parts key_orders read_at
all_agree = (λ x y. texts_agree x.0 y.0, (λ x y. texts_agree x.0 y.0, (λ x y. texts_agree x.0 y.0, (λ x y. texts_agree x.0 y.0, (λ x y. texts_agree x.0 y.0, (λ x y. texts_agree x.0 y.0, (λ x y. texts_agree x.0 y.0, (λ x y. texts_agree x.0 y.0, (λ x y. texts_agree x.0 y.0, (λ x y. texts_agree x.0 y.0, (λ x y. texts_agree x.0 y.0, (λ x y. texts_agree x.0 y.0, (λ x y. refl, tt)))))))))))))

-- the number and the contents of a key are those of its variant
numbered : (k : ProtoKey) → number_at key.enum.parts 0 (key.enum.as_values k) ≡ number_of k
numbered (keys.Input f) = refl
numbered (keys.Parse f) = refl
numbered (keys.Items f) = refl
numbered (keys.Imports f) = refl
numbered (keys.Linked f) = refl
numbered (keys.Defs f) = refl
numbered (keys.Scope f) = refl
numbered (keys.Resolved f) = refl
numbered (keys.Checks f) = refl
numbered (keys.Diagnostics f) = refl
numbered (keys.Descriptor f) = refl
numbered (keys.Symbols f) = refl
numbered (keys.Definition f place) = refl

contained : (k : ProtoKey) → read_at (key.enum.as_values k) ≡ (own_name k, own_place k)
contained (keys.Input f) = refl
contained (keys.Parse f) = refl
contained (keys.Items f) = refl
contained (keys.Imports f) = refl
contained (keys.Linked f) = refl
contained (keys.Defs f) = refl
contained (keys.Scope f) = refl
contained (keys.Resolved f) = refl
contained (keys.Checks f) = refl
contained (keys.Diagnostics f) = refl
contained (keys.Descriptor f) = refl
contained (keys.Symbols f) = refl
contained (keys.Definition f place) = refl

pub keys_order : (a b : ProtoKey) → order.ghosts.cmp a b ≡ key_cmp a b
keys_order a b =
    order_at key.enum.parts key_orders 0 read_at all_agree (key.enum.as_values a) (key.enum.as_values b)
    ∙ ap₂ (λ m n. ordering_then (nat_cmp m n) (contents_cmp (read_at (key.enum.as_values a)) (read_at (key.enum.as_values b)))) (numbered a) (numbered b)
    ∙ ap₂ (λ p q. ordering_then (nat_cmp (number_of a) (number_of b)) (contents_cmp p q)) (contained a) (contained b)
