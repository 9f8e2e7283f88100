-- A call on one house: the landings that it counts leave the register that it leaves, and its edges stay within the limit.
use mathlib.Core.Path.{◌≡◌, refl}
use Prim.Native.Nat.{ℕ, ◌≤◌, max}
use native.Mathlib.Omega.{arith}
use mathlib.Core.List.{List, []}
use lib.ListN.{length}
use Rattle.model.specs.Register.{Landed, Quote, commit, empty, landed, refused}
use Rattle.model.specs.Calls.{House}
use Rattle.model.specs.Series.{Landing, committed_by}
use Rattle.model.proofs.Registers.Accepted.{within_lands}
use Rattle.model.proofs.Registers.Quotes.{commit_lands}
use Rattle.theory.proofs.Series.Landings.{LeftBy, left_edge, left_empty, left_list, left_same}
use Rattle.nursery.specs.Removal.{Removed, kept_with, remove, removed}
use Rattle.nursery.specs.Calls.{HouseCall, asks, commit_effect, commits, effect, grows, lands, read_effect, remove_effect, removes}
use Rattle.nursery.specs.Series.{accepts, accepts_rest}
use Rattle.nursery.proofs.Within.{list_bounded, one_more}
use Rattle.nursery.proofs.Removal.{taken_out}

pub record Does (c : HouseCall) (s : House) (ls : List Landing) : Type 0 where
  pub left : LeftBy (accepts c s ls) (effect c s).leaves
  pub few : length (effect c s).leaves.edges ≤ max (length s.register.edges) s.limit

-- a grow counts its house as empty
pub grown_few : (bs : List ℕ) (s : House) → length (effect (grows bs) s).leaves.edges ≤ s.limit
unfolding effect read_effect empty
grown_few bs s = omega (arith, (list_bounded s.limit empty bs).few)

commits_does : (q : Quote) (s : House) (ls : List Landing) → LeftBy ls s.register → Does (commits q) s ls
unfolding effect accepts commit_effect committed_by
commits_does q s ls b = go (commit s.limit s.register q) refl
  where
    go : (l : Landed) → commit s.limit s.register q ≡ l → Does (commits q) s ls
    go (landed r) h =
        let w = (commit_lands s.limit s.register q r h).1 in
        let m = one_more s.limit s.register q.asked r w in
        record {
          left = rw h (left_edge q.asked b (within_lands s.limit s.register q.asked r w));
          few = rw h (omega (arith, m.0, m.1));
        }
    go (refused x) h = record { left = rw h (left_same b); few = rw h (omega arith) }

removes_does : (d : ℕ) (slice : List ℕ) (s : House) (ls : List Landing) → LeftBy ls s.register → Does (removes d slice) s ls
unfolding effect accepts remove_effect accepts_rest
removes_does d slice s ls b = go (remove s d (length slice)) refl
  where
    go : (x : Removed) → remove s d (length slice) ≡ x → Does (removes d slice) s ls
    go (removed r cs) q =
        let t = taken_out s b.reachable d (length slice) r cs q in
        record {
          left = rw q (record { reachable = t.reachable; history_is = t.counted_anew });
          few = rw q (omega (arith, t.one_less));
        }
    go (kept_with x) q = record { left = rw q b; few = rw q (omega arith) }

pub does_house : (c : HouseCall) (s : House) (ls : List Landing) → LeftBy ls s.register → Does c s ls
unfolding effect accepts read_effect
does_house (grows bs) s ls b =
    record { left = left_list s.limit empty bs [] left_empty; few = omega (arith, grown_few bs s) }
does_house (lands bs) s ls b =
    record { left = left_list s.limit s.register bs ls b; few = (list_bounded s.limit s.register bs).few }
does_house (commits q) s ls b = commits_does q s ls b
does_house (removes d slice) s ls b = removes_does d slice s ls b
does_house (asks q) s ls b = record { left = b; few = omega arith }
