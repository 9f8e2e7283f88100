use Rattle.text.specs.Pages.{page, write}
use lib.ListN.{drop}
use mathlib.Core.Path.{◌≡◌}
use Rattle.text.proofs.writing.put_text.Given as goal

-- what is left of the text, written from here, gives the page that the whole text gives
abbrev pub invariant-loop-b : goal.invariant-loop-b
invariant-loop-b l = write (drop l.b-index l.text) (page l.out l.next) ≡ write l.text (page l.initial.out l.initial.next)
