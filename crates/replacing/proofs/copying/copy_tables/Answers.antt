use Rattle.replacing.proofs.CopyLaws.{tables_copied}
use Rattle.replacing.proofs.copying.copy_tables.Goals as goal

pub returns-clause-copied : goal.returns-clause-copied
returns-clause-copied c =
    tables_copied _ _ _ _ _ _ _ _ _ _ _ _ _ _ _ _ _ _ c.copy.ensures c.copy-2.ensures c.copy-3.ensures c.copy-4.ensures c.copy-5.ensures c.copy-6.ensures
