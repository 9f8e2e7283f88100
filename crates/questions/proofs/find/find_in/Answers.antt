use mathlib.Core.Path.{refl}
use Rattle.questions.proofs.TableLaws.{find_reply}
use Rattle.questions.proofs.find.find_in.Goals as goal

pub returns : goal.returns
returns c = λ volumes. rw c.ok_or.ensures.value (find_reply _ _ _ _ _ c.search_label-searched.ensures _ refl)
