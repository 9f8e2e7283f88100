use mathlib.Core.Path.{◌≡◌}
use lib.ListN.{drop}
use Rattle.text.specs.Pages.{page, write}
use Rattle.model.specs.FromC.{bytes_of}
use Rattle.pnl.proofs.answers.put_words.Given as goal

-- the numbers left end the page as all do
abbrev pub invariant-loop-n : goal.invariant-loop-n
invariant-loop-n l = write (bytes_of (drop l.n-index l.numbers)) (page l.out l.next) ≡ write (bytes_of l.numbers) (page l.initial.out l.initial.next)
