-- How the place of a home's group is found by counting the homes before it.
use Rattle.std.proofs.Common.{◌≡◌, ◌⊎◌, ℕ, zero, suc, ◌+◌, ◌-◌, ◌<◌, ◌≤◌, true, false, List, refl, sym, ap, ◌∙◌, subst, inl, inr, ⊎_elim, arith}
use Rattle.cleary_core.specs.declared.cells.Cell.{Cell}
use Rattle.cleary_core.specs.declared.cells.CellMarks.{CellMarks}
use Rattle.cleary_core.specs.Cells.{mark_of, cell_marks}
use Rattle.cleary_core.specs.Map.{Key, Slots, Keeps}
use Rattle.cleary_core.specs.Search.{virgins, changes, Row, Front, InRun, IsGroupPlace, Placed, OnTheWay, Unbroken, HasChange, EndsGroup}
use Rattle.cleary_core.proofs.Slots.{cases_bool, clash, virgin_taken}
use Rattle.std.proofs.lemmas.Bool.{cases_lt}
use Rattle.cleary_core.proofs.Placing.{placed_start, placed_on, placed_more, group_ends}

-- one cell more on the left
pub changes_more : (cells : ℕ → Cell) (start edge : ℕ) → 0 < start → start ≤ edge → changes cells (start - 1) (edge - (start - 1)) ≡ mark_of (cells (start - 1)).change + changes cells start (edge - start)
changes_more cells start edge some low =
    let long : edge - (start - 1) ≡ suc (edge - start) = omega arith in
    let next : suc (start - 1) ≡ start = omega arith in
    ap (λ m. changes cells (start - 1) m) long ∙ ap (λ m. mark_of (cells (start - 1)).change + changes cells m (edge - start)) next

pub virgins_more : (cells : ℕ → Cell) (start home groups : ℕ) → 0 < start → start ≤ home → groups ≡ virgins cells start (home - start) → groups + mark_of (cells (start - 1)).virgin ≡ virgins cells (start - 1) (home - (start - 1))
virgins_more cells start home groups some low e =
    let long : home - (start - 1) ≡ suc (home - start) = omega arith in
    let next : suc (start - 1) ≡ start = omega arith in
    let rest : virgins cells (suc (start - 1)) (home - start) ≡ virgins cells start (home - start) = ap (λ m. virgins cells m (home - start)) next in
    let whole : virgins cells (start - 1) (suc (home - start)) ≡ virgins cells (start - 1) (home - (start - 1)) = ap (λ m. virgins cells (start - 1) m) (sym long) in
    omega (arith, e, rest, whole)

-- what was counted to the left of a home
pub record Counted (cells : ℕ → Cell) (start edge groups ends home : ℕ) : Type 0 where
  pub row : Row cells start home
  pub inside : (start ≤ edge) × (edge ≤ home)
  pub groups_are : groups ≡ virgins cells start (home - start)
  pub ends_are : ends ≡ changes cells start (edge - start)
  pub last : (edge ≡ start) ⊎ ((cells (edge - 1)).change ≡ true)
  pub none : ends ≡ 0 → edge ≡ start

pub counted_none : (cells : ℕ → Cell) (home : ℕ) → Counted cells home home 0 0 home
counted_none cells home =
    let none : home - home ≡ 0 = omega arith in record {
      row = λ i a b. absurd (omega arith);
      inside = (omega arith, omega arith);
      groups_are = ap (λ m. virgins cells home m) (sym none);
      ends_are = ap (λ m. changes cells home m) (sym none);
      last = inl refl;
      none = λ e. refl;
    }

-- one occupied cell more was read
pub counted_more : (cells : ℕ → Cell) (start edge groups ends home next : ℕ) (marks : CellMarks) → 0 < start → start ≤ home → cell_marks (cells (start - 1)) ≡ marks → marks.occupied ≡ true
    → (ends ≡ 0 → next ≡ start - 1 + mark_of marks.change) → (0 < ends → next ≡ edge) → Counted cells start edge groups ends home → Counted cells (start - 1) next (groups + mark_of marks.virgin) (ends + mark_of marks.change) home
counted_more cells start edge groups ends home next marks some low is taken first later c =
    let row : Row cells (start - 1) home = (λ i a b. ⊎_elim
    (λ (less : i < start). ap (λ (m : ℕ). (cells m).occupied) (omega arith) ∙ ap (λ (x : CellMarks). x.occupied) is ∙ taken)
    (λ (past : start ≤ i). c.row i past b)
    (cases_lt i start)) in
    let groups_are : groups + mark_of marks.virgin ≡ virgins cells (start - 1) (home - (start - 1))
    = ap (λ (x : CellMarks). groups + mark_of x.virgin) (sym is) ∙ virgins_more cells start home groups some low c.groups_are in
    let change : mark_of (cells (start - 1)).change ≡ mark_of marks.change = ap (λ (x : CellMarks). mark_of x.change) is in
    ⊎_elim
    (λ (more : 0 < ends).
    let here : next ≡ edge = later more in
    let on = changes_more cells start edge some c.inside.0 in
    let old = c.ends_are in
    let ends_are : ends + mark_of marks.change ≡ changes cells (start - 1) (edge - (start - 1)) = omega arith in
    let last : (edge ≡ start - 1) ⊎ ((cells (edge - 1)).change ≡ true) = ⊎_elim
    (λ (same : edge ≡ start). let none : edge - start ≡ 0 = omega arith in absurd (omega (arith, old, ap (λ m. changes cells start m) none)))
    (λ (mark : (cells (edge - 1)).change ≡ true). inr mark)
    c.last in
    subst (λ (m : ℕ). Counted cells (start - 1) m (groups + mark_of marks.virgin) (ends + mark_of marks.change) home) (sym here) (let h : Counted cells (start - 1) edge (groups + mark_of marks.virgin) (ends + mark_of marks.change) home = record {
      row = row;
      inside = (omega (arith, c.inside), c.inside.1);
      groups_are = groups_are;
      ends_are = ends_are;
      last = last;
      none = λ e. absurd (omega arith);
    } in h))
    (λ (most : ends ≤ 0).
    let none : ends ≡ 0 = omega arith in
    let here : next ≡ start - 1 + mark_of marks.change = first none in
    ⊎_elim
    (λ (yes : marks.change ≡ true).
    let one : mark_of marks.change ≡ 1 = ap mark_of yes in
    let at : next ≡ start = omega arith in
    let on = changes_more cells start start some (omega arith) in
    let zero_left : changes cells start (start - start) ≡ 0 = (let e : start - start ≡ 0 = omega arith in ap (λ m. changes cells start m) e) in
    let ends_are : ends + mark_of marks.change ≡ changes cells (start - 1) (start - (start - 1)) = omega arith in
    subst (λ (m : ℕ). Counted cells (start - 1) m (groups + mark_of marks.virgin) (ends + mark_of marks.change) home) (sym at) (let h : Counted cells (start - 1) start (groups + mark_of marks.virgin) (ends + mark_of marks.change) home = record {
      row = row;
      inside = (omega arith, low);
      groups_are = groups_are;
      ends_are = ends_are;
      last = inr (ap (λ (x : CellMarks). x.change) is ∙ yes);
      none = λ e. absurd (omega arith);
    } in h))
    (λ (no : marks.change ≡ false).
    let zero_mark : mark_of marks.change ≡ 0 = ap mark_of no in
    let at : next ≡ start - 1 = omega arith in
    let ends_are : ends + mark_of marks.change ≡ changes cells (start - 1) (start - 1 - (start - 1)) = (let e : start - 1 - (start - 1) ≡ 0 = omega arith in omega (arith, ap (λ m. changes cells (start - 1) m) e)) in
    subst (λ (m : ℕ). Counted cells (start - 1) m (groups + mark_of marks.virgin) (ends + mark_of marks.change) home) (sym at) (let h : Counted cells (start - 1) (start - 1) (groups + mark_of marks.virgin) (ends + mark_of marks.change) home = record {
      row = row;
      inside = (omega arith, omega arith);
      groups_are = groups_are;
      ends_are = ends_are;
      last = inl refl;
      none = λ e. refl;
    } in h))
    (cases_bool marks.change))
    (cases_lt 0 ends)

pub fronted : (cells : ℕ → Cell) (start edge groups ends home first from count : ℕ) → Counted cells start edge groups ends home → (0 < start → (cells (start - 1)).occupied ≡ false)
    → first ≡ start → (ends ≤ groups → (from ≡ edge) × (count + ends ≡ groups)) → (groups < ends → (from ≡ start) × (count ≡ groups)) → Front cells first from count home
fronted cells start edge groups ends home first from count c empty is near far = subst (λ (m : ℕ). Front cells m from count home) (sym is) (⊎_elim
    (λ (less : groups < ends).
    let f = far less in
    let none : from - start ≡ 0 = omega (arith, f.0) in
    let h : Front cells start from count home = record {
      row = c.row;
      edge = empty;
      inside = (omega (arith, f.0), omega (arith, f.0, c.inside));
      ends = inl f.0;
      count = ap (λ m. count + changes cells start m) none ∙ omega (arith, f.1) ∙ c.groups_are;
    } in h)
    (λ (most : ends ≤ groups).
    let f = near most in
    let h : Front cells start from count home = record {
      row = c.row;
      edge = empty;
      inside = (omega (arith, f.0, c.inside), omega (arith, f.0, c.inside));
      ends = subst (λ (m : ℕ). (m ≡ start) ⊎ ((cells (m - 1)).change ≡ true)) (sym f.0) c.last;
      count = ap (λ m. count + changes cells start (m - start)) f.0 ∙ ap (λ m. count + m) (sym c.ends_are) ∙ f.1 ∙ c.groups_are;
    } in h)
    (cases_lt groups ends))

module _ (n : ℕ) (cells : ℕ → Cell) (slots : Slots) (start home : ℕ) (run : InRun n cells slots start home) where
  pub passed_start : (groups : ℕ) → groups ≡ virgins cells start (home - start) → OnTheWay n cells slots start start home groups
  passed_start groups e = record { passed = start; inside = run.inside.0; placed = placed_start n slots run.laid cells run.drawn start run.edge; rest = e }

  -- the next home that has a group
  next_home : (at count passed left : ℕ) → passed + count ≡ home → Placed n slots start at passed → suc left ≡ virgins cells passed count
      → (p : ℕ) × (p < home) × Placed n slots start at p × ((cells p).virgin ≡ true) × (left ≡ virgins cells (suc p) (home - suc p))
  next_home at zero passed left e placed c = absurd (omega arith)
  next_home at (suc count) passed left e placed c = ⊎_elim
      (λ (yes : (cells passed).virgin ≡ true).
      let one : mark_of (cells passed).virgin ≡ 1 = ap mark_of yes in
      let rest : virgins cells (suc passed) count ≡ virgins cells (suc passed) (home - suc passed) = ap (λ m. virgins cells (suc passed) m) (omega arith) in
      let x : (p : ℕ) × (p < home) × Placed n slots start at p × ((cells p).virgin ≡ true) × (left ≡ virgins cells (suc p) (home - suc p)) = (passed, omega arith, placed, yes, omega arith) in x)
      (λ (no : (cells passed).virgin ≡ false).
      let none : mark_of (cells passed).virgin ≡ 0 = ap mark_of no in
      next_home at count (suc passed) left (omega arith) (subst (λ (m : ℕ). Placed n slots start at m) (omega arith) (placed_on n slots run.laid cells run.drawn start at passed placed no)) (omega arith))
      (cases_bool (cells passed).virgin)

  pub passed_more : (at stop left : ℕ) → OnTheWay n cells slots start at home (suc left) → (HasChange n cells at → EndsGroup cells at stop) → OnTheWay n cells slots start stop home left
  passed_more at stop left before ends =
      let m = next_home at (home - before.passed) before.passed left (omega (arith, before.inside)) before.placed before.rest in
      let low : m.0 ≤ home = omega (arith, m.1) in
      let g = ends (group_ends n slots run.laid cells run.drawn start at m.0 home m.2 low run.inside.1 run.row m.3) in
      let some = g.some in
      record {
        passed = suc m.0;
        inside = m.1;
        placed = subst (λ (q : ℕ). Placed n slots start q (suc m.0)) (omega arith) (subst (λ (q : ℕ). Placed n slots start (stop - 1 + 1) q) (omega arith)
            (placed_more n slots run.laid cells run.drawn start at m.0 home (stop - 1) m.2 low run.inside.1 run.row m.3 (omega arith) g.row g.mark));
        rest = m.4;
      }

  -- past the homes that nothing has
  pass_rest : (at count passed : ℕ) → passed + count ≡ home → Placed n slots start at passed → 0 ≡ virgins cells passed count → Placed n slots start at home
  pass_rest at zero passed e placed c = subst (λ (m : ℕ). Placed n slots start at m) (omega arith) placed
  pass_rest at (suc count) passed e placed c = ⊎_elim
      (λ (yes : (cells passed).virgin ≡ true). let one : mark_of (cells passed).virgin ≡ 1 = ap mark_of yes in absurd (omega arith))
      (λ (no : (cells passed).virgin ≡ false).
      let none : mark_of (cells passed).virgin ≡ 0 = ap mark_of no in
      pass_rest at count (suc passed) (omega arith) (subst (λ (m : ℕ). Placed n slots start at m) (omega arith) (placed_on n slots run.laid cells run.drawn start at passed placed no)) (omega arith))
      (cases_bool (cells passed).virgin)

  -- past cells in which groups end: from `at` on there was no change up to `p`, and the last of `count` more
  -- has one
  pub passed_on : (count p at left : ℕ) → at ≤ p → Unbroken cells at p → (count ≡ 0 → p ≡ at) → (0 < count → (cells (p + count - 1)).change ≡ true) → OnTheWay n cells slots start at home (left + changes cells p count)
      → OnTheWay n cells slots start (p + count) home left
  passed_on zero p at left low none here last before =
      subst (λ (m : ℕ). OnTheWay n cells slots start m home left) (omega (arith, here refl)) (subst (λ (m : ℕ). OnTheWay n cells slots start at home m) (omega arith) before)
  passed_on (suc count) p at left low none here last before = ⊎_elim
      (λ (yes : (cells p).change ≡ true).
      let one : mark_of (cells p).change ≡ 1 = ap mark_of yes in
      let on : OnTheWay n cells slots start (suc p) home (left + changes cells (suc p) count)
      = passed_more at (suc p) (left + changes cells (suc p) count) (subst (λ (m : ℕ). OnTheWay n cells slots start at home m) (omega arith) before)
      (λ has. record { some = omega arith; row = λ i a b. none i a (omega arith); mark = ap (λ m. (cells m).change) (omega arith) ∙ yes }) in
      subst (λ (m : ℕ). OnTheWay n cells slots start m home left) (omega arith)
      (passed_on count (suc p) (suc p) left (omega arith) (λ i a b. absurd (omega arith)) (λ e. refl) (λ some. ap (λ m. (cells m).change) (omega arith) ∙ last (omega arith)) on))
      (λ (no : (cells p).change ≡ false).
      let zero_mark : mark_of (cells p).change ≡ 0 = ap mark_of no in
      subst (λ (m : ℕ). OnTheWay n cells slots start m home left) (omega arith)
      (passed_on count (suc p) at left (omega arith)
      (λ i a b. ⊎_elim (λ (less : i < p). none i a less) (λ (from : p ≤ i). ap (λ m. (cells m).change) (omega arith) ∙ no) (cases_lt i p))
      (λ e. absurd (clash (cells p).change no (ap (λ m. (cells m).change) (omega arith) ∙ last (omega arith))))
      (λ some. ap (λ m. (cells m).change) (omega arith) ∙ last (omega arith))
      (subst (λ (m : ℕ). OnTheWay n cells slots start at home m) (omega arith) before)))
      (cases_bool (cells p).change)

  -- what was read to the left of a home tells how far its group is
  pub on_the_way : (from groups : ℕ) → Front cells start from groups home → OnTheWay n cells slots start from home groups
  on_the_way from groups front =
      let low = front.inside.0 in
      subst (λ (m : ℕ). OnTheWay n cells slots start m home groups) (omega arith)
      (passed_on (from - start) start start groups (omega arith) (λ i a b. absurd (omega arith)) (λ e. refl)
      (λ some. ⊎_elim
      (λ (first : from ≡ start). absurd (omega arith))
      (λ (mark : (cells (from - 1)).change ≡ true). ap (λ m. (cells m).change) (omega arith) ∙ mark)
      front.ends)
      (passed_start (groups + changes cells start (from - start)) front.count))

  pub passed_all : (at : ℕ) → OnTheWay n cells slots start at home 0 → Placed n slots start at home
  passed_all at before = pass_rest at (home - before.passed) before.passed (omega (arith, before.inside)) before.placed before.rest

-- a home in a run, in cells that keep a map
pub in_run : (n : ℕ) (cells : ℕ → Cell) (keys : List Key) (k : Keeps n cells keys) (start from groups home : ℕ) → start ≤ home → home < n → (cells home).occupied ≡ true → Front cells start from groups home → InRun n cells k.slots start home
in_run n cells keys k start from groups home low inside taken front = record {
  laid = k.laid;
  drawn = k.drawn;
  inside = (low, inside);
  row = λ i a b. ⊎_elim
      (λ (less : i < home). front.row i a less)
      (λ (past : home ≤ i). ap (λ (m : ℕ). (cells m).occupied) (omega arith) ∙ taken)
      (cases_lt i home);
  edge = front.edge;
}

-- the home of a key is occupied
pub home_occupied : (n : ℕ) (cells : ℕ → Cell) (keys : List Key) → Keeps n cells keys → (home : ℕ) → home < n → (cells home).virgin ≡ true → (cells home).occupied ≡ true
home_occupied n cells keys k home inside t = let u = virgin_taken n k.slots k.laid cells k.drawn home inside t in k.drawn.occupied home u.0 u.1

-- what a search from an occupied home found, in words that keep a map
pub found : (n : ℕ) (cells : ℕ → Cell) (keys : List Key) (k : Keeps n cells keys) (start from groups place home : ℕ) (marks : CellMarks) → start ≤ home → home < n → marks.occupied ≡ true → cell_marks (cells home) ≡ marks
    → Front cells start from groups home → (InRun n cells k.slots start home → OnTheWay n cells k.slots start from home groups → Placed n k.slots start place home) → IsGroupPlace n cells k.slots start place home marks.virgin
found n cells keys k start from groups place home marks low inside taken here front placed =
    let run = in_run n cells keys k start from groups home low inside (ap (λ (m : CellMarks). m.occupied) here ∙ taken) front in
    record { run = run; placed = placed run (on_the_way n cells k.slots start home run from groups front); mark = ap (λ (m : CellMarks). m.virgin) here }
