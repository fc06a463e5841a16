-- One more post: how many requests there are then.
use Rattle.std.proofs.Common.{◌≡◌, ◌+◌, List, [], ◌∷◌, ◌++◌, arith}
use Rattle.pq_mail.specs.declared.post.Post.{Post}
use Rattle.pq_mail.specs.Posts.{asks, count_of}

pub asks_after : {K : Type 0} (posts : List (Post K)) (post : Post K) → asks (posts ++ post ∷ []) ≡ asks posts + count_of post
asks_after [] post = omega arith
asks_after (x ∷ posts) post = omega (arith, asks_after posts post)
