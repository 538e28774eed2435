-- The lines and the buckets of a path.
use Rattle.std.proofs.Common.{◌≡◌, ℕ, ◌+◌, ◌-◌, ◌*◌, ◌/◌, ◌%◌, ◌^◌, ◌<◌, ◌≤◌, bit_and, bit_or, sym, ap, ◌∙◌, arith}
use Rattle.std.proofs.lemmas.Nat.{mul-le, pow_pos, pow-add, mod_below, and_mask, one_shl, or_shifted}
use Rattle.std.proofs.Math.Nat.{mod-add-mod, mod-eq_of_lt}
use Rattle.std.proofs.Math.Pow.{pow_mono}
use Rattle.mix_hash.specs.Hash.{mix_of}
use Rattle.probe_path.specs.Path.{table_lines, first_bucket, stride, line_at, bucket_at, Course, IsCourse, IsPrepared, BucketsDiffer, MeetsEachBucket}
use Rattle.probe_path.proofs.Turning.{turns_differ, turns_meet}

-- a table has 8 buckets to a line
pub lines_of_8 : (d : ℕ) → 3 ≤ d → 2 ^ d ≡ 8 * table_lines d
lines_of_8 d deep = let e : d ≡ 3 + (d - 3) = omega arith in ap (λ n. 2 ^ n) e ∙ pow-add 2 3 (d - 3)

-- a table has at most 2 ^ 22 lines
pub few_lines : (d : ℕ) → d ≤ 25 → table_lines d ≤ 4194304
few_lines d shallow = let below : d - 3 ≤ 22 = omega arith in pow_mono below

module _ (w d pair : ℕ) where
  pub stride_below : stride w d pair < 2 * table_lines d
  unfolding stride
  stride_below =
      let half = mod_below (mix_of w pair / 2 ^ d) (table_lines d) (pow_pos (d - 3)) in
      omega arith

  pub line_at-below : (j : ℕ) → line_at w d pair j < table_lines d
  unfolding line_at
  line_at-below j = mod_below (first_bucket w d pair / 8 + j * stride w d pair) (table_lines d) (pow_pos (d - 3))

  -- the next line is the stride further on
  pub line_at-next : (j : ℕ) → (line_at w d pair j + stride w d pair) % table_lines d ≡ line_at w d pair (j + 1)
  unfolding line_at
  line_at-next j =
      let from : ℕ = first_bucket w d pair / 8 in
      let step : ℕ = stride w d pair in
      let on : from + j * step + step ≡ from + (j + 1) * step = omega arith in
      mod-add-mod (from + j * step) (table_lines d) step ∙ ap (λ n. n % table_lines d) on

  -- the lines of a path differ
  lines_differ : (i j : ℕ) → i < table_lines d → j < table_lines d → line_at w d pair i ≡ line_at w d pair j → i ≡ j
  unfolding line_at stride
  lines_differ i j i_below j_below same =
      turns_differ (first_bucket w d pair / 8) (mix_of w pair / 2 ^ d % table_lines d) (d - 3) i j i_below j_below same

  -- each line of the table is on the path
  lines_met : (y : ℕ) → y < table_lines d → (j : ℕ) × (j < table_lines d) × (line_at w d pair j ≡ y)
  unfolding line_at stride
  lines_met y below = turns_meet (first_bucket w d pair / 8) (mix_of w pair / 2 ^ d % table_lines d) (d - 3) y below

-- the parts of a number 8 * line + place
same_line : (x y p q : ℕ) → 8 * x + p % 8 ≡ 8 * y + q % 8 → x ≡ y
same_line x y p q e = omega arith

same_turn : (x y o i j : ℕ) → 8 * x + (o + i % 8) % 8 ≡ 8 * y + (o + j % 8) % 8 → i % 8 ≡ j % 8
same_turn x y o i j e = omega arith

same_step : (i j : ℕ) → i / 8 ≡ j / 8 → i % 8 ≡ j % 8 → i ≡ j
same_step i j line place = omega arith

line_of_step : (j i : ℕ) → i < 8 → (8 * j + i) / 8 ≡ j
line_of_step j i h = omega arith

place_of_step : (j i : ℕ) → i < 8 → (8 * j + i) % 8 ≡ i
place_of_step j i h = omega arith

-- the step of a line that is at a bucket
turned_back : (o b : ℕ) → o < 8 → (o + (b % 8 + 8 - o) % 8) % 8 ≡ b % 8
turned_back o b h = omega arith

module _ (w d pair : ℕ) (deep : 3 ≤ d) where
  pub bucket_at-below : (step : ℕ) → bucket_at w d pair step < 2 ^ d
  unfolding bucket_at
  bucket_at-below step =
      let line = line_at-below w d pair (step / 8) in
      omega (arith, lines_of_8 d deep)

  pub bucket_at-line : (j i : ℕ) → i < 8 → 8 * line_at w d pair j + (first_bucket w d pair % 8 + i) % 8 ≡ bucket_at w d pair (8 * j + i)
  unfolding bucket_at
  bucket_at-line j i below =
      ap (λ n. 8 * line_at w d pair n + (first_bucket w d pair % 8 + i) % 8) (sym (line_of_step j i below))
      ∙ ap (λ n. 8 * line_at w d pair ((8 * j + i) / 8) + (first_bucket w d pair % 8 + n) % 8) (sym (place_of_step j i below))

  -- the buckets of a path differ
  pub buckets_differ : (lines : ℕ) → lines ≤ table_lines d → BucketsDiffer w d pair (8 * lines)
  unfolding bucket_at
  buckets_differ lines few i j i_below j_below same =
      let o : ℕ = first_bucket w d pair % 8 in
      let line : line_at w d pair (i / 8) ≡ line_at w d pair (j / 8) =
      same_line (line_at w d pair (i / 8)) (line_at w d pair (j / 8)) (o + i % 8) (o + j % 8) same in
      same_step i j (lines_differ w d pair (i / 8) (j / 8) (omega arith) (omega arith) line)
      (same_turn (line_at w d pair (i / 8)) (line_at w d pair (j / 8)) o i j same)

  -- a path through all lines meets each bucket
  pub buckets_met : MeetsEachBucket w d pair (8 * table_lines d)
  unfolding bucket_at
  buckets_met b below =
      let line_below : b / 8 < table_lines d = omega (arith, lines_of_8 d deep) in
      let line = lines_met w d pair (b / 8) line_below in
      let o : ℕ = first_bucket w d pair % 8 in
      let j : ℕ = line.0 in
      let i : ℕ = (b % 8 + 8 - o) % 8 in
      let met : bucket_at w d pair (8 * j + i) ≡ b =
      sym (bucket_at-line j i (omega arith)) ∙ ap (λ n. 8 * n + (o + i) % 8) line.2
      ∙ ap (λ n. 8 * (b / 8) + n) (turned_back o b (omega arith)) ∙ omega arith in
      (8 * j + i, omega (arith, line.1), met)

-- what a new path keeps
pub prepared : (w d pair lines h b m : ℕ) → IsCourse w (record { pair = pair; d = d; lines = lines }) → h ≡ mix_of w pair → b ≡ h % 2 ^ d → m ≡ 1 * 2 ^ (d - 3) % 2 ^ 64
    → IsPrepared w (record { pair = pair; d = d; lines = lines }) (b / 8) (bit_and b 7) (bit_or (bit_and (h / 2 ^ d) (m - 1) * 2 % 2 ^ 64) 1) (m - 1)
unfolding first_bucket stride
prepared w d pair lines h b m fits hash first mask =
    let deep : 3 ≤ d = fits.smallest in
    let shallow : d ≤ 25 = fits.largest in
    let count : m ≡ table_lines d = mask ∙ one_shl (d - 3) 64 (omega arith) in
    let begins : b ≡ first_bucket w d pair = first ∙ ap (λ n. n % 2 ^ d) hash in
    let half : ℕ = mix_of w pair / 2 ^ d % table_lines d in
    let half_is : bit_and (h / 2 ^ d) (m - 1) ≡ half =
    ap (λ n. bit_and (h / 2 ^ d) (n - 1)) count ∙ and_mask (h / 2 ^ d) (d - 3) ∙ ap (λ n. n / 2 ^ d % table_lines d) hash in
    let half_below : half < table_lines d = mod_below (mix_of w pair / 2 ^ d) (table_lines d) (pow_pos (d - 3)) in
    let doubled : half * 2 % 2 ^ 64 ≡ half * 2 = omega (arith, few_lines d shallow) in
    let odd : bit_or (half * 2) 1 ≡ half * 2 + 1 = or_shifted half 1 1 (omega arith) in
    record {
      course_fits = fits;
      first_line_is = ap (λ n. n / 8) begins;
      offset_is = and_mask b 3 ∙ ap (λ n. n % 8) begins;
      stride_is = ap (λ n. bit_or (n * 2 % 2 ^ 64) 1) half_is ∙ ap (λ n. bit_or n 1) doubled ∙ odd ∙ omega arith;
      mask_is = ap (λ n. n - 1) count;
    }

-- what the code computes from what a path keeps
module _ (w : ℕ) (course : Course) (first_line offset step mask : ℕ) (kept : IsPrepared w course first_line offset step mask) where
  abbrev d : ℕ
  d = course.d

  first_line_within : first_line < table_lines d
  unfolding first_bucket
  first_line_within =
      let within = mod_below (mix_of w course.pair) (2 ^ d) (pow_pos d) in
      omega (arith, kept.first_line_is, lines_of_8 d kept.course_fits.smallest)

  pub first_line_below : first_line < 4194304
  first_line_below = omega (arith, first_line_within, few_lines d kept.course_fits.largest)

  -- the first line computed
  pub first_line_is_at : first_line ≡ line_at w d course.pair 0
  unfolding line_at
  first_line_is_at =
      let none : first_line ≡ first_bucket w d course.pair / 8 + 0 * stride w d course.pair = omega (arith, kept.first_line_is) in
      let below : first_line < table_lines d = first_line_within in
      sym (mod-eq_of_lt below) ∙ ap (λ n. n % table_lines d) none

  pub step_below : step < 8388608
  step_below = omega (arith, kept.stride_is, stride_below w d course.pair, few_lines d kept.course_fits.largest)

  pub offset_below : offset < 8
  offset_below = omega (arith, kept.offset_is)

  pub steps_below : (j : ℕ) → j ≤ course.lines → j * step ≤ 35184372088832
  steps_below j within =
      let few : j ≤ 4194304 = omega (arith, kept.course_fits.walked, few_lines d kept.course_fits.largest) in
      let small : step ≤ 8388608 = omega (arith, step_below) in
      mul-le j step 4194304 8388608 few small

  masked : (x : ℕ) → bit_and x mask ≡ x % table_lines d
  masked x = ap (λ n. bit_and x n) kept.mask_is ∙ and_mask x (d - 3)

  -- a line computed from the first one
  pub line_is : (j : ℕ) → bit_and (first_line + j * step) mask ≡ line_at w d course.pair j
  unfolding line_at
  line_is j =
      masked (first_line + j * step)
      ∙ ap (λ n. (n + j * step) % table_lines d) kept.first_line_is
      ∙ ap (λ n. (first_bucket w d course.pair / 8 + j * n) % table_lines d) kept.stride_is

  -- a line computed from the one before
  pub next_line_is : (j line : ℕ) → line ≡ line_at w d course.pair j → bit_and (line + step) mask ≡ line_at w d course.pair (j + 1)
  next_line_is j line here =
      masked (line + step)
      ∙ ap (λ n. (n + step) % table_lines d) here
      ∙ ap (λ n. (line_at w d course.pair j + n) % table_lines d) kept.stride_is
      ∙ line_at-next w d course.pair j

  -- a line's number times 8
  pub raised : (j line : ℕ) → line ≡ line_at w d course.pair j → line * 8 % 2 ^ 64 ≡ 8 * line_at w d course.pair j
  raised j line here = omega (arith, line_at-below w d course.pair j, few_lines d kept.course_fits.largest)

  -- a step's bucket computed from its line
  pub bucket_is : (j i line place : ℕ) → i < 8 → line ≡ line_at w d course.pair j → place ≡ (offset + i) % 8
      → line * 8 % 2 ^ 64 + place ≡ bucket_at w d course.pair (8 * j + i)
  bucket_is j i line place below here placed =
      ap (λ n. n + place) (raised j line here)
      ∙ ap (λ n. 8 * line_at w d course.pair j + n) (placed ∙ ap (λ n. (n + i) % 8) kept.offset_is)
      ∙ bucket_at-line w d course.pair kept.course_fits.smallest j i below
