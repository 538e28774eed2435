-- A round is one block of each worker. Lines by their round and their place in it.
use Rattle.std.proofs.Common.{◌≡◌, ◌⊎◌, ℕ, ◌+◌, ◌-◌, ◌*◌, ◌/◌, ◌%◌, ◌<◌, ◌≤◌, min, inl, inr, sym, ap, ◌∙◌, ⊎_elim, arith}
use Rattle.std.proofs.lemmas.Bool.{cases_lt, cases_order}
use Rattle.std.proofs.lemmas.Nat.{row_fits, row_fits_turned, div-mul-add, mod-mul-add, mod_below, mul-le, div-add-mod', same_from_place}

-- the line that a worker has after n others
abbrev pub dealt_line : ℕ → ℕ → ℕ → ℕ → ℕ
dealt_line workers block worker n = n / block * (block * workers) + worker * block + n % block

-- how many of the first lines a worker has
abbrev pub share : ℕ → ℕ → ℕ → ℕ → ℕ
share workers block worker lines = lines / (block * workers) * block + min (lines % (block * workers) - worker * block) block

-- ---- facts of plain numbers
put_together : (b w q s t n i : ℕ) → q * w + s ≡ n → n * b + t ≡ i → i ≡ q * (b * w) + (s * b + t)
put_together b w q s t n i one other = omega (arith, ap (λ m. m * b) one)

row_more : (q m r n : ℕ) → q * m + r ≡ n → r + 1 ≡ m → n + 1 ≡ (q + 1) * m + 0
row_more q m r n e last = omega arith

below_row : (p q m : ℕ) → p < q → p * m + m ≤ q * m
below_row p q m h = row_fits p m q m h (omega arith)

module _ (workers block worker : ℕ) (some : 0 < block) (among : worker < workers) where
  abbrev pub round : ℕ
  round = block * workers

  -- where the worker's block of a round begins
  abbrev pub first : ℕ
  first = worker * block

  pub block_within : first + block ≤ round
  block_within = row_fits_turned worker block block workers among (omega arith)

  pub round_some : 0 < round
  round_some = omega (arith, block_within)

  -- a line by its round and its place
  pub in_round : (i : ℕ) → i / round * round + i % round ≡ i
  in_round i = div-add-mod' i round

  pub place_below : (i : ℕ) → i % round < round
  place_below i = mod_below i round round_some

  -- the place of a line by its block and its place there
  pub place_is : (i : ℕ) → i % round ≡ i / block % workers * block + i % block
  place_is i =
      let t_below : i % block < block = mod_below i block some in
      let s_below : i / block % workers < workers = mod_below (i / block) workers (omega arith) in
      let inside = row_fits_turned (i / block % workers) block block workers s_below (omega arith) in
      let e = put_together block workers (i / block / workers) (i / block % workers) (i % block) (i / block) i
      (div-add-mod' (i / block) workers) (div-add-mod' i block) in
      ap (λ n. n % round) e ∙ mod-mul-add (i / block / workers) round (i / block % workers * block + i % block) (omega arith)

  -- the worker's lines stand in its block of a round
  pub own_place : (i : ℕ) → i / block % workers ≡ worker → i % round ≡ first + i % block
  own_place i own = place_is i ∙ ap (λ n. n * block + i % block) own

  pub own_by_place : (i : ℕ) → first ≤ i % round → i % round < first + block → i / block % workers ≡ worker
  own_by_place i from to =
      let t_below : i % block < block = mod_below i block some in
      let same = same_from_place (i / block % workers) (i % block) worker (i % round - first) block t_below (omega arith)
      (sym (place_is i) ∙ omega arith) in
      same.0

  -- what comes after a line
  next_place : (i : ℕ) → (((i + 1) / round ≡ i / round) × ((i + 1) % round ≡ i % round + 1))
      ⊎ (((i + 1) / round ≡ i / round + 1) × ((i + 1) % round ≡ 0) × (i % round + 1 ≡ round))
  next_place i =
      let here = in_round i in
      let below = place_below i in
      ⊎_elim
      (λ (inside : i % round + 1 < round).
      let e : i + 1 ≡ i / round * round + (i % round + 1) = omega arith in
      inl (ap (λ n. n / round) e ∙ div-mul-add (i / round) round (i % round + 1) inside, ap (λ n. n % round) e ∙ mod-mul-add (i / round) round (i % round + 1) inside))
      (λ (last : round ≤ i % round + 1).
      let whole : i % round + 1 ≡ round = omega arith in
      let e = row_more (i / round) round (i % round) i here whole in
      inr (ap (λ n. n / round) e ∙ div-mul-add (i / round + 1) round 0 round_some, ap (λ n. n % round) e ∙ mod-mul-add (i / round + 1) round 0 round_some, whole))
      (cases_lt (i % round + 1) round)

  -- the share goes up by one at the worker's lines, and nowhere else
  pub share_none : share workers block worker 0 ≡ 0
  share_none =
      let q : 0 / round ≡ 0 = omega (arith, in_round 0, mul-le (0 / round) 1 (0 / round) round (omega arith) (omega (arith, round_some))) in
      let r : 0 % round ≡ 0 = omega (arith, in_round 0) in
      ap (λ n. n * block + min (0 % round - first) block) q ∙ ap (λ n. 0 * block + min (n - first) block) r ∙ omega arith

  shared : ℕ → ℕ → ℕ
  shared q r = q * block + min (r - first) block

  share_same : (q r : ℕ) → (r < first) ⊎ (first + block ≤ r) → shared q (r + 1) ≡ shared q r
  unfolding shared
  share_same q r out = omega arith

  share_next : (q r : ℕ) → first ≤ r → r < first + block → shared q (r + 1) ≡ shared q r + 1
  unfolding shared
  share_next q r from to = omega arith

  share_round : (q : ℕ) → shared (q + 1) 0 ≡ shared q round
  unfolding shared
  share_round q = let fits = block_within in omega arith

  share_on : (i : ℕ) → share workers block worker (i + 1) ≡ shared (i / round) (i % round + 1)
  unfolding shared
  share_on i = ⊎_elim
      (λ (e : ((i + 1) / round ≡ i / round) × ((i + 1) % round ≡ i % round + 1)).
      ap (λ n. n * block + min ((i + 1) % round - first) block) e.0 ∙ ap (λ n. i / round * block + min (n - first) block) e.1)
      (λ (e : ((i + 1) / round ≡ i / round + 1) × ((i + 1) % round ≡ 0) × (i % round + 1 ≡ round)).
      ap (λ n. n * block + min ((i + 1) % round - first) block) e.0 ∙ ap (λ n. (i / round + 1) * block + min (n - first) block) e.1
      ∙ share_round (i / round) ∙ ap (λ n. shared (i / round) n) (sym e.2))
      (next_place i)

  pub share_more : (i : ℕ) → i / block % workers ≡ worker → share workers block worker (i + 1) ≡ share workers block worker i + 1
  unfolding shared
  share_more i own =
      let place = own_place i own in
      let t_below = mod_below i block some in
      share_on i ∙ share_next (i / round) (i % round) (omega arith) (omega arith)

  pub share_kept : (i : ℕ) → (i / block % workers ≡ worker → ⊥) → share workers block worker (i + 1) ≡ share workers block worker i
  unfolding shared
  share_kept i other =
      let out : (i % round < first) ⊎ (first + block ≤ i % round) =
      ⊎_elim
      (λ (before : i % round < first). inl before)
      (λ (from : first ≤ i % round). ⊎_elim
      (λ (to : i % round < first + block). absurd (other (own_by_place i from to)))
      (λ (after : first + block ≤ i % round). inr after)
      (cases_lt (i % round) (first + block)))
      (cases_lt (i % round) first) in
      share_on i ∙ share_same (i / round) (i % round) out

  -- the number of a worker's line
  pub share_at_own : (i : ℕ) → i / block % workers ≡ worker → share workers block worker i ≡ i / round * block + i % block
  share_at_own i own =
      let place = own_place i own in
      let t_below = mod_below i block some in
      omega arith

  pub line_of_number : (i : ℕ) → i / block % workers ≡ worker → dealt_line workers block worker (i / round * block + i % block) ≡ i
  line_of_number i own =
      let place = own_place i own in
      let t_below = mod_below i block some in
      let q = div-mul-add (i / round) block (i % block) t_below in
      let t = mod-mul-add (i / round) block (i % block) t_below in
      ap (λ n. n * round + first + (i / round * block + i % block) % block) q ∙ ap (λ n. i / round * round + first + n) t
      ∙ omega (arith, in_round i)

  pub number_small : (i : ℕ) → i / block % workers ≡ worker → i / round * block + i % block ≤ i
  number_small i own =
      let place = own_place i own in
      let fits = block_within in
      let rows = mul-le (i / round) block (i / round) round (omega arith) (omega arith) in
      omega (arith, in_round i)

  pub line_of_share : (i : ℕ) → i / block % workers ≡ worker → dealt_line workers block worker (share workers block worker i) ≡ i
  line_of_share i own = ap (dealt_line workers block worker) (share_at_own i own) ∙ line_of_number i own

  -- a number is below the share of the first lines exactly where its line is one of them
  pub share_above : (n lines : ℕ) → dealt_line workers block worker n < lines → n < share workers block worker lines
  share_above n lines below =
      let number = div-add-mod' n block in
      let t_below = mod_below n block some in
      let whole = in_round lines in
      let r_below = place_below lines in
      ⊎_elim
      (λ (same : n / block ≡ lines / round).
      let row = ap (λ q. q * round) same in
      let blocks = ap (λ q. q * block) same in
      omega arith)
      (λ (other : (n / block < lines / round) ⊎ (lines / round < n / block)). ⊎_elim
      (λ (before : n / block < lines / round). omega (arith, below_row (n / block) (lines / round) block before))
      (λ (after : lines / round < n / block). absurd (omega (arith, below_row (lines / round) (n / block) round after)))
      other)
      (cases_order (n / block) (lines / round))

  pub share_below : (n lines : ℕ) → lines ≤ dealt_line workers block worker n → share workers block worker lines ≤ n
  share_below n lines past =
      let number = div-add-mod' n block in
      let t_below = mod_below n block some in
      let whole = in_round lines in
      let fits = block_within in
      ⊎_elim
      (λ (same : n / block ≡ lines / round).
      let row = ap (λ q. q * round) same in
      let blocks = ap (λ q. q * block) same in
      omega arith)
      (λ (other : (n / block < lines / round) ⊎ (lines / round < n / block)). ⊎_elim
      (λ (before : n / block < lines / round). absurd (omega (arith, below_row (n / block) (lines / round) round before)))
      (λ (after : lines / round < n / block). omega (arith, below_row (lines / round) (n / block) block after))
      other)
      (cases_order (n / block) (lines / round))
