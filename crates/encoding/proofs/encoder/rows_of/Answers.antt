-- `rows_of` gives the eight rows of the generator of each strength, whose coefficients are known: one computed test for each.
use mathlib.Core.Path.{refl}
use Rattle.field.specs.Field.{◌⊕◌, ◌·◌, where_set, times_alpha, shift_and_add}
use Rattle.field.specs.Line.{to_line, to_conventional}
use Rattle.codewords.proofs.Checks.{generator8, generator16}
use Rattle.encoding.specs.Working.{table_rows}
use Rattle.encoding.proofs.GeneratorRoots.{table_8, table_16}
use Rattle.encoding.proofs.StepTables.{other_strength}
use Rattle.encoding.proofs.encoder.rows_of.Goals as goal

pub returns-then-e-eq8 : goal.returns-then-e-eq8
unfolding generator8 table_rows to_line to_conventional ◌·◌ shift_and_add times_alpha where_set ◌⊕◌
returns-then-e-eq8 c = table_8 _ _ c.if-e-eq8.true refl

pub returns-else-e-eq8 : goal.returns-else-e-eq8
unfolding generator16 table_rows to_line to_conventional ◌·◌ shift_and_add times_alpha where_set ◌⊕◌
returns-else-e-eq8 c = table_16 _ _ (other_strength _ c.requires c.if-e-eq8.false) refl
