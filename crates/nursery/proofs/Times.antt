-- Document 02, S-12, for series of calls: how often the edges accepted in a house since its last clearing relabelled one vertex.
use mathlib.Core.Path.{◌≡◌, sym, ap, ◌∙◌, subst}
use Prim.Native.Nat.{ℕ, ◌≤◌, ◌<◌}
use mathlib.Core.List.{List, [], map}
use lib.ListN.{length}
use Rattle.model.specs.Basics.{max_vertices, sum, up_to}
use Rattle.model.specs.Register.{Register}
use Rattle.model.specs.Series.{Landing, relabelled_by}
use Rattle.model.specs.Notions.{most_times, times_relabelled}
use Rattle.theory.proofs.Registers.Times.{few_times, times_add_up}
use Rattle.theory.proofs.Series.Told.{edges_count}
use Rattle.nursery.specs.Licence.{houses}
use Rattle.nursery.specs.Series.{Made, after, empty_site, register_at, since}
use Rattle.nursery.proofs.Whole.{left_in, told_by}

module _ (ms : List Made) (h : ℕ) (l : h < houses) where
  abbrev ls : List Landing
  ls = since h ms empty_site []

  abbrev r : Register
  r = register_at h (after ms empty_site)

  -- after a removal, over the edges landed anew and what follows: "for any register grown without removals", and for these too
  pub times_in_house : (v : ℕ) → 1 ≤ length (since h ms empty_site []) → times_relabelled v (since h ms empty_site []) ≤ most_times (length (since h ms empty_site []))
  times_in_house v g =
      let b = left_in ms h l in
      let n : length r.edges ≡ length ls = ap length (sym (told_by r ls b).edges_are) ∙ edges_count ls in
      subst (λ (k : ℕ). times_relabelled v ls ≤ most_times k) n
      (subst (λ (ks : List Landing). times_relabelled v ks ≤ most_times (length r.edges)) b.history_is (few_times r b.reachable v))

  -- they add up to what demand 3 compares the total in the head with (`AtEnd.total`)
  pub times_add_up_in_house : sum (map (λ v. times_relabelled v (since h ms empty_site [])) (up_to max_vertices)) ≡ relabelled_by (since h ms empty_site [])
  times_add_up_in_house =
      let b = left_in ms h l in
      subst (λ (ks : List Landing). sum (map (λ v. times_relabelled v ks) (up_to max_vertices)) ≡ r.relabellings) b.history_is (times_add_up r b.reachable)
      ∙ (told_by r ls b).total_is
