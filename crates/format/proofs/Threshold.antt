-- The route's test on floats is one of whole numbers: for a length l and a count c from 1 to `row_limit`, `c as f64 / l as f64 > 0.8` exactly where 4 * l < 5 * c.
-- The quotient is c / l rounded once, and 0.8 is 4 / 5 rounded. Rounding keeps the order, so a quotient up to 4 / 5 rounds to 0.8 at most.
-- One above 4 / 5 is (4 * row_limit + 1) / (5 * row_limit) or more, and that rounds to a float above 0.8, as antt computes. Assumes nothing.
use Rattle.std.proofs.Common.{◌≡◌, ℕ, ◌+◌, ◌*◌, ◌^◌, ◌<◌, ◌≤◌, Bool, true, false, T, ltb, pos, sym, refl, ◌∙◌, mul_assoc, mul_comm, mul-pos, lt_of_not-le, ne_of_gt, mul-one, mul_left_comm, arith, lit<, le→leb, ltb→lt, le-ltb, lt-ltb, ne_eqb}
use mathlib.Core.Logic.{dite}
use native.Mathlib.Decide.{dec_le}
use lib.Ieee.{Float, fin, binary64, round, div, lt, le, in_float, of_int, of_bits}
use lib.Ieee.Back.{round_whole}
use lib.Ieee.Exact.{HasValue}
use lib.Ieee.Order.{round_mono}
use lib.Ieee.Positive.{num, den, positive, den_pos, value→cross, positive_of_value, le→cross, cross→le, le_trans_positive, between}
use lib.Ieee.Scale.{round_same}
use Rattle.format.specs.Verdict.{row_limit}

-- the f64 nearest to a / b
abbrev near : ℕ → ℕ → Float
near a b = round binary64 false a b

-- the test as the code has it, with 0.8 by its bits
abbrev pub share_above : ℕ → ℕ → Bool
share_above l c = lt (of_bits binary64 0x3fe9_9999_9999_999a) (div binary64 (of_int binary64 (pos c)) (of_int binary64 (pos l)))

threshold-is : of_bits binary64 0x3fe9_9999_9999_999a ≡ near 4 5
unfolding of_bits round
threshold-is = refl

-- ---- `/` and `<` of finite floats above 0, by the fractions that they are
div_is : (x y : Float) → T (positive x) → T (positive y) → div binary64 x y ≡ near (num x * den y) (num y * den x)
unfolding div
div_is (fin false m e) (fin false n d) p q = rw (ne_eqb n 0 (ne_of_gt (ltb→lt 0 n q)))
div_is lib.Ieee.nan y p q = elim p [ ]
div_is (lib.Ieee.inf _) y p q = elim p [ ]
div_is (fin false m e) lib.Ieee.nan p q = elim q [ ]
div_is (fin false m e) (lib.Ieee.inf _) p q = elim q [ ]
div_is (fin false m e) (fin true n d) p q = elim q [ ]
div_is (fin true m e) y p q = elim p [ ]

lt-is : (x y : Float) → T (positive x) → T (positive y) → lt x y ≡ ltb (num x * den y) (num y * den x)
unfolding lt
lt-is (fin false m e) (fin false n d) p q = refl
lt-is lib.Ieee.nan y p q = elim p [ ]
lt-is (lib.Ieee.inf _) y p q = elim p [ ]
lt-is (fin false m e) lib.Ieee.nan p q = elim q [ ]
lt-is (fin false m e) (lib.Ieee.inf _) p q = elim q [ ]
lt-is (fin false m e) (fin true n d) p q = elim q [ ]
lt-is (fin true m e) y p q = elim p [ ]

lt_no : (x y : Float) → T (positive x) → T (positive y) → T (le y x) → lt x y ≡ false
lt_no x y p q h = lt-is x y p q ∙ le-ltb _ _ (le→cross y x q p h)

lt_yes : (x y : Float) → T (positive x) → T (positive y) → (T (le y x) → ⊥) → lt x y ≡ true
lt_yes x y p q h = lt-is x y p q ∙ lt-ltb _ _ (lt_of_not-le (λ k. h (cross→le y x q p k)))

-- ---- a whole number made a float
module _ (n : ℕ) (n-max : n ≤ row_limit) where
  -- what the cast asks
  pub in-float : T (in_float binary64 (pos n))
  unfolding in_float
  in-float = le→leb n (2 ^ 53) (omega arith)

  made : HasValue (of_int binary64 (pos n)) false n 1
  unfolding of_int
  made = round_whole binary64 false n (omega arith)

  made-num : num (of_int binary64 (pos n)) ≡ n * den (of_int binary64 (pos n))
  made-num = sym (mul-one _) ∙ value→cross (of_int binary64 (pos n)) n 1 made

-- ---- the test
module _ (l c : ℕ) (l-pos : 0 < l) (c_pos : 0 < c) (l-max : l ≤ row_limit) (c-max : c ≤ row_limit) where
  quotient_is : div binary64 (of_int binary64 (pos c)) (of_int binary64 (pos l)) ≡ near c l
  quotient_is =
      let x = of_int binary64 (pos c) in
      let y = of_int binary64 (pos l) in
      div_is x y (positive_of_value x c 1 (made c c-max) c_pos) (positive_of_value y l 1 (made l l-max) l-pos)
      ∙ rw (made-num c c-max, made-num l l-max)
      (round_same binary64 false (c * den x * den y) (l * den y * den x) c l (mul-pos (mul-pos l-pos (den_pos y)) (den_pos x)) l-pos
      (simp (mul_assoc, mul_comm, mul_left_comm)))

  quotient-positive : T (positive (near c l))
  unfolding round
  quotient-positive =
      between (near 1 row_limit) (near c l) (near row_limit 1) tt tt
      (round_mono binary64 1 row_limit c l (lit< tt) l-pos (omega arith))
      (round_mono binary64 c l row_limit 1 l-pos (lit< tt) (omega arith))

  below : 5 * c ≤ 4 * l → T (le (near c l) (near 4 5))
  below h = round_mono binary64 c l 4 5 l-pos (lit< tt) (omega arith)

  -- the least quotient above 4 / 5, rounded, is not 0.8 or less: `le` of the two computes to false
  above : 4 * l < 5 * c → T (le (near c l) (near 4 5)) → ⊥
  unfolding round le
  above h small =
      le_trans_positive (near (4 * row_limit + 1) (5 * row_limit)) (near c l) (near 4 5) tt quotient-positive tt
      (round_mono binary64 (4 * row_limit + 1) (5 * row_limit) c l (lit< tt) l-pos (omega arith)) small

  quotient-above : lt (near 4 5) (near c l) ≡ ltb (4 * l) (5 * c)
  unfolding round
  quotient-above =
      dite (dec_le (5 * c) (4 * l))
      (λ h. lt_no (near 4 5) (near c l) tt quotient-positive (below h) ∙ sym (le-ltb _ _ h))
      (λ h. lt_yes (near 4 5) (near c l) tt quotient-positive (above (lt_of_not-le h)) ∙ sym (lt-ltb _ _ (lt_of_not-le h)))

  pub share-above : share_above l c ≡ ltb (4 * l) (5 * c)
  share-above = rw (threshold-is, quotient_is) quotient-above
