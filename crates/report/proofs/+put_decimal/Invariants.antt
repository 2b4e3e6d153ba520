-- `report::put_decimal` calls itself with the number less its last digit: the measure is the number. Assumes nothing.
use Rattle.report.proofs.+put_decimal.Given as goal

abbrev pub decreases-put_decimal : goal.decreases-put_decimal
decreases-put_decimal l = l.x
