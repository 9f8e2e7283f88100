use Prim.Native.Nat.{◌-◌}
use mathlib.Core.Path.{◌≡◌}
use Rattle.lent.specs.Lent.{of_lent, of_view, SameLent}
use Rattle.nursery.specs.Licence.{houses}
use Rattle.heads.specs.Meaning.{as_heads}
use Rattle.heads.specs.Others.{others_in}
use Rattle.licence.proofs.others.all_pass.Given as goal

abbrev pub invariant-loop-h : goal.invariant-loop-h
invariant-loop-h l =
    record {
      lent : SameLent l.scratch l.initial.scratch;
      same : of_lent l.scratch ≡ of_lent l.initial.scratch;
      rest : others_in (of_view l.register) (as_heads l.heads) l.house (8 - l.h) l.h ≡ others_in (of_view l.register) (as_heads l.heads) l.house houses 0;
    }
