-- It is known what follows each place from this one on, and where each number stands first
-- from there on.
use Rattle.std.proofs.Common.{◌≡◌, ℕ, ◌<◌, ◌≤◌, Option, length, slice_index_or}
use Rattle.coswid_links.specs.declared.rival_chain.Following.{Following}
use Rattle.coswid_links.specs.RivalChains.{IsFollowing, IsFirst, has}
use Rattle.coswid_links.proofs.rival_chain.following_places.Given as goal

abbrev pub invariant-loop-place : goal.invariant-loop-place
invariant-loop-place l = record {
  latest_len : length l.latest.items ≡ length l.releases;
  following_len : length l.following.items ≡ length l.releases;
  following : (at : ℕ) (d : Following) → l.place ≤ at → at < length l.releases → IsFollowing l.releases l.contents at (slice_index_or l.following.items at d);
  latest : (number : ℕ) (d : Option ℕ) → number < length l.releases → IsFirst (has l.releases number) l.place (length l.releases) (slice_index_or l.latest.items number d);
}
