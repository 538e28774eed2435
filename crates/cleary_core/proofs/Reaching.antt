-- What agrees with all that was found agrees with what was found before.
use Rattle.std.proofs.Common.{◌≡◌, ◌⊎◌, ℕ, suc, ◌+◌, ◌-◌, ◌*◌, ◌/◌, ◌%◌, ◌<◌, ◌≤◌, List, Some, min, max, inl, inr, ⊎_elim, arith, sym, subst}
use Rattle.std.proofs.Math.Nat.{mul-le-mul_right}
use Rattle.std.proofs.lemmas.Bool.{cases_lt}
use Rattle.cleary_core.specs.declared.cells.Cell.{Cell}
use Rattle.cleary_core.specs.declared.cells.Sizes.{Sizes}
use Rattle.cleary_core.specs.Access.{HasReached, HasBits, HasCells, Reaches}
use Rattle.cleary_core.specs.Cells.{width}
use Rattle.cleary_core.specs.Map.{Key, Keeps}
use Rattle.cleary_core.specs.Search.{ReachesRun}

pub earlier : (before after : ℕ → ℕ → Type 0) (words : List ℕ) → ((i m : ℕ) → before i m → after i m) → HasReached after words → HasReached before words
earlier before after words more agrees = λ i m h. agrees i m (more i m h)

-- the same along three readings
pub all_earlier : (first second third last : ℕ → ℕ → Type 0) (words : List ℕ) → ((i m : ℕ) → first i m → second i m) → ((i m : ℕ) → second i m → third i m) → ((i m : ℕ) → third i m → last i m) → HasReached last words
    → HasReached first words × HasReached second words × HasReached third words
all_earlier first second third last words a b c agrees =
    let on_third : HasReached third words = earlier third last words c agrees in
    let on_second : HasReached second words = earlier second third words b on_third in
    (earlier first second words a on_second, on_second, on_third)

-- more cells have the words of fewer
pub widen : (before after : ℕ → ℕ → Type 0) (z : Sizes) (low high less more : ℕ) → less ≤ low → high ≤ more → Reaches before after z low high → Reaches before after z less more
widen before after z low high less more a b reach = λ i m found. ⊎_elim
    (λ (old : before i m). inl old)
    (λ (there : HasCells z low high i).
    let c : less * width z ≤ low * width z = mul-le-mul_right (width z) a in
    let d : high * width z ≤ more * width z = mul-le-mul_right (width z) b in
    let e = there.0 in
    let f = there.1 in
    inr (omega arith, omega arith))
    (reach i m found)

-- one reading after another
pub onward : (first second third : ℕ → ℕ → Type 0) (z : Sizes) (low high : ℕ) → Reaches first second z low high → Reaches second third z low high → Reaches first third z low high
onward first second third z low high a b = λ i m found. ⊎_elim (λ (old : second i m). a i m old) (λ (there : HasCells z low high i). inr there) (b i m found)

pub nowhere : (reached : ℕ → ℕ → Type 0) (z : Sizes) (low high : ℕ) → Reaches reached reached z low high
nowhere reached z low high = λ i m found. inl found

-- the words of one cell
pub first_word : (z : Sizes) (i at p : ℕ) → at ≡ i * width z → p ≡ at / 64 → HasCells z i (suc i) p
first_word z i at p e f = let g : suc i * width z ≡ i * width z + width z = omega arith in (omega arith, omega arith)

pub second_word : (z : Sizes) (i at p : ℕ) → at ≡ i * width z → p ≡ at / 64 + 1 → 64 < at % 64 + width z → HasCells z i (suc i) p
second_word z i at p e f h = let g : suc i * width z ≡ i * width z + width z = omega arith in (omega arith, omega arith)

-- what one word added
pub at_word : (before after : ℕ → ℕ → Type 0) (z : Sizes) (low high p : ℕ) → ((i m : ℕ) → after i m → before i m ⊎ (i ≡ p)) → HasCells z low high p → Reaches before after z low high
at_word before after z low high p only has = λ i m found. ⊎_elim (λ (old : before i m). inl old) (λ (there : i ≡ p). inr (subst (λ (q : ℕ). HasCells z low high q) (sym there) has)) (only i m found)

-- what one word added that has some of these bits, and one reading of them after another
pub bits_at : (before after : ℕ → ℕ → Type 0) (at bits p : ℕ) → ((i m : ℕ) → after i m → before i m ⊎ (i ≡ p)) → HasBits at bits p → (i m : ℕ) → after i m → before i m ⊎ HasBits at bits i
bits_at before after at bits p only has = λ i m found. ⊎_elim (λ (old : before i m). inl old) (λ (there : i ≡ p). inr (subst (λ (q : ℕ). HasBits at bits q) (sym there) has)) (only i m found)

pub bits_then : (first second third : ℕ → ℕ → Type 0) (at bits : ℕ) → ((i m : ℕ) → second i m → first i m ⊎ HasBits at bits i) → ((i m : ℕ) → third i m → second i m ⊎ HasBits at bits i)
    → (i m : ℕ) → third i m → first i m ⊎ HasBits at bits i
bits_then first second third at bits a b = λ i m found. ⊎_elim (λ (old : second i m). a i m old) (λ (there : HasBits at bits i). inr there) (b i m found)

-- bits of one cell
pub bits_within : (before after : ℕ → ℕ → Type 0) (z : Sizes) (i start at bits : ℕ) → start ≡ i * width z → start ≤ at → at + bits ≤ start + width z
    → ((p m : ℕ) → after p m → before p m ⊎ HasBits at bits p) → Reaches before after z i (suc i)
bits_within before after z i start at bits e low high reach = λ p m found. ⊎_elim (λ (old : before p m). inl old)
    (λ (there : HasBits at bits p). let g : suc i * width z ≡ i * width z + width z = omega arith in let a = there.0 in let b = there.1 in inr (omega (arith, a, b, e, low), omega (arith, b, e, high, g)))
    (reach p m found)

-- the cell of a key stands in its home's run, so that a further step there stays in the run
pub along_run : (first second third : ℕ → ℕ → Type 0) (z : Sizes) (cells : ℕ → Cell) (keys : List Key) (k : Keeps z.cells cells keys) (home at : ℕ) (key : Key) → k.slots at ≡ Some key → key.home ≡ home
    → ReachesRun first second z cells home → Reaches second third z at (suc at) → ReachesRun first third z cells home
along_run first second third z cells keys k home at key there is r more =
    let inside = k.laid.past at key there in
    let low = r.span.0 in
    let high = r.span.1 in
    let most = r.span.2 in
    let less : ℕ = min r.low at in
    let past : ℕ = max r.high (suc at) in
    record {
      low = less;
      high = past;
      span = (omega arith, omega arith, omega arith);
      row = λ i a b. ⊎_elim
          (λ (before : i < r.low). let t = k.laid.run_down at i key there (omega arith) (omega arith) in k.drawn.occupied i t.0 t.1)
          (λ (from : r.low ≤ i). ⊎_elim
          (λ (within : i < r.high). r.row i from within)
          (λ (behind : r.high ≤ i). let t = k.laid.run_up at i key there (omega arith) (omega arith) in k.drawn.occupied i t.0 t.1)
          (cases_lt i r.high))
          (cases_lt i r.low);
      reach = onward first second third z (less - 1) (suc past)
          (widen first second z (r.low - 1) (suc r.high) (less - 1) (suc past) (omega arith) (omega arith) r.reach)
          (widen second third z at (suc at) (less - 1) (suc past) (omega arith) (omega arith) more);
    }
