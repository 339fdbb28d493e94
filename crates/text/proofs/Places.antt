-- Laws of bytes written from a place on: two runs, one behind the other, are one run (`put_join`); a loop that writes a list
-- piece by piece keeps what is left to write (`Rest`); a run from place 0 on stands before the bytes that were behind it.
-- Assumes nothing.
use mathlib.Core.Path.{◌≡◌, refl, sym, ap, ◌∙◌}
use mathlib.Core.List.{List, [], ◌∷◌, ◌++◌}
use Prim.Native.Nat.{ℕ, suc, ◌+◌, ◌≤◌}
use native.Mathlib.Nat.{add-zero, zero-add, add-suc, suc-add}
use native.Mathlib.Omega.{arith}
use lib.ListN.{length, length-append, set, take, drop}
use lib.Seq.{sets, length-sets, sets-eq, take_at}
use Rattle.text.specs.declared.Writer.{Writer}
use Rattle.text.specs.Writing.{Put, Wrote}

pub sets_append : (l : List ℕ) (at : ℕ) (a b : List ℕ) → sets l at (a ++ b) ≡ sets (sets l at a) (at + length a) b
sets_append l at [] b = ap (λ (k : ℕ). sets l k b) (sym (add-zero at))
sets_append l at (x ∷ a) b =
    sets_append (set l at x) (suc at) a b
    ∙ ap (λ (k : ℕ). sets (sets (set l at x) (suc at) a) k b) (suc-add at (length a) ∙ sym (add-suc at (length a)))

-- a run of bytes, and another behind it, are one run
pub put_join : {l l' l'' : List ℕ} {at next last : ℕ} (a b : List ℕ) → Put l l' at a next → Put l' l'' next b last → Put l l'' at (a ++ b) last
put_join {l} {at = at} a b p q =
    record {
      bytes = q.bytes ∙ rw (p.bytes, p.place) (sym (sets_append l at a b));
      place = simp length-append (omega (arith, p.place, q.place));
    }

-- bytes written from place 0 on stand before those that were behind them
pub put_front : {l l' : List ℕ} {next : ℕ} (a : List ℕ) → length a ≤ length l → Put l l' 0 a next → l' ≡ a ++ drop (length a) l
put_front {l} a h p = p.bytes ∙ sets-eq a l 0 (rw zero-add h) ∙ rw zero-add

pub put_taken : {l l' : List ℕ} {next : ℕ} (a : List ℕ) → length a ≤ length l → Put l l' 0 a next → take next l' ≡ a
put_taken {l} {next = next} a h p =
    ap (take next) (put_front a h p) ∙ take_at a (drop (length a) l) next (omega (arith, p.place))

pub put_long : {l l' : List ℕ} {at next : ℕ} (a : List ℕ) → Put l l' at a next → length l' ≡ length l
put_long {l} {at = at} a p = ap length p.bytes ∙ length-sets l at a

-- l is to become what l₀ becomes by writing `whole` at place at₀; `rest` is still to be written, at place `at`
pub record Rest (l₀ : List ℕ) (at₀ : ℕ) (whole l : List ℕ) (at : ℕ) (rest : List ℕ) : Type 0 where
  pub long : length l ≡ length l₀
  pub place : at + length rest ≡ at₀ + length whole
  pub bytes : sets l at rest ≡ sets l₀ at₀ whole

pub rest_start : (l : List ℕ) (at : ℕ) (whole : List ℕ) → Rest l at whole l at whole
rest_start l at whole = record { long = refl; place = refl; bytes = refl }

pub rest_step : {l₀ l l' whole : List ℕ} {at₀ at next : ℕ} (a b : List ℕ) → Rest l₀ at₀ whole l at (a ++ b) → Put l l' at a next → Rest l₀ at₀ whole l' next b
rest_step {l = l} {at = at} a b r p =
    record {
      long = put_long a p ∙ r.long;
      place = omega (arith, p.place, r.place, length-append a b);
      bytes = rw (p.bytes, p.place) (sym (sets_append l at a b)) ∙ r.bytes;
    }

pub rest_end : {l₀ l whole : List ℕ} {at₀ at : ℕ} → Rest l₀ at₀ whole l at [] → Put l₀ l at₀ whole at
rest_end r = record { bytes = r.bytes; place = omega (arith, r.place) }

-- the same of a writer: it is to have written `whole` from where `start` stands, and `rest` is still to be written
pub record Left (start : Writer) (whole : List ℕ) (now : Writer) (rest : List ℕ) : Type 0 where
  pub same_reference : now.space.ghost_name ≡ start.space.ghost_name
  pub bytes : Rest start.space.now start.at whole now.space.now now.at rest

pub left_start : (w : Writer) (whole : List ℕ) → Left w whole w whole
left_start w whole = record { same_reference = refl; bytes = rest_start _ _ _ }

pub left_step : {w₀ w w' : Writer} {whole : List ℕ} (a b : List ℕ) → Left w₀ whole w (a ++ b) → Wrote w w' a → Left w₀ whole w' b
left_step a b r p = record { same_reference = p.same_reference ∙ r.same_reference; bytes = rest_step a b r.bytes p.put }

pub left_end : {w₀ w : Writer} {whole : List ℕ} → Left w₀ whole w [] → Wrote w₀ w whole
left_end r = record { same_reference = r.same_reference; put = rest_end r.bytes }

-- what is left fits where the whole does
pub left_room : {w₀ w : Writer} {whole rest : List ℕ} → w₀.at + length whole ≤ length w₀.space.now → Left w₀ whole w rest → w.at + length rest ≤ length w.space.now
left_room h r = omega (arith, r.bytes.place, r.bytes.long)

pub wrote_join : {w w' w'' : Writer} (a b : List ℕ) → Wrote w w' a → Wrote w' w'' b → Wrote w w'' (a ++ b)
wrote_join a b p q = record { same_reference = q.same_reference ∙ p.same_reference; put = put_join a b p.put q.put }

pub wrote_room : {w w' : Writer} (a b : List ℕ) → w.at + length (a ++ b) ≤ length w.space.now → Wrote w w' a → w'.at + length b ≤ length w'.space.now
wrote_room a b h p = omega (arith, p.put.place, put_long a p.put, length-append a b)
