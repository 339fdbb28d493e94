-- `text::Writer::put_number` meets its contract: its six stores are a run of the six bytes of `column`.
-- Assumes nothing.
use mathlib.Core.Path.{refl}
use native.Mathlib.Omega.{arith}
use native.Mathlib.Numerals.{towards_suc}
use Rattle.text.specs.Text.{column}
use Rattle.text.proofs.Writer.put_number.Goals as goal

pub returns : goal.returns
unfolding column
returns c =
    record {
      same_reference = refl;
      put =
          record {
            bytes =
                simp (
                  towards_suc,
                  c.column_byte.ensures,
                  c.column_byte-2.ensures,
                  c.column_byte-3.ensures,
                  c.column_byte-4.ensures,
                  c.column_byte-5.ensures,
                );
            place = omega arith;
          };
    }
