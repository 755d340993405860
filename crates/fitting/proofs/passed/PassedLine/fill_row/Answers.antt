use Rattle.std.proofs.Common.{◌≡◌, ℕ, ◌+◌, ◌-◌, ◌*◌, ◌<◌, List, ◌++◌, get_or, length, drop, take, slice_index, sym, ap, ◌∙◌, subst, inl, inr, arith}
use Rattle.std.proofs.lemmas.Bool.{cases_eq}
use Rattle.std.proofs.lemmas.List.{get_or-append_right, get_or-drop, get_or_append_left, length-append, length-drop, length-take-le}
use Rattle.fitting.specs.Rows.{LeastFrom, entry}
use Rattle.fitting.specs.Rules.{verdicts}
use Rattle.fitting.proofs.passed.PassedLine.fill_row.Goals as goal

-- the words up to a row's end with the row written anew, and the words after it
module _ (front row store : List ℕ) (t : ℕ) (e : length front ≡ (t + 1) * 401) (r : length row ≡ 401) where
  abbrev old_row : List ℕ
  old_row = drop (length front - t * 401) (drop (t * 401) front)

  abbrev written : List ℕ
  written = take (t * 401) front ++ (row ++ old_row)

  before-length : length (take (t * 401) front) ≡ t * 401
  before-length = length-take-le (t * 401) front (omega arith)

  written-length : length written ≡ (t + 1) * 401
  written-length =
      omega (
        arith,
        length-append (take (t * 401) front) (row ++ old_row),
        length-append row old_row,
        before-length,
        length-drop (length front - t * 401) (drop (t * 401) front),
        length-drop (t * 401) front,
      )

  here : (back : List ℕ) (k : ℕ) → k < 401 → entry (written ++ back) t k ≡ slice_index row k
  here back k low =
      let place : t * 401 + k - t * 401 ≡ k = omega arith in
      get_or_append_left written back 0 (t * 401 + k) (omega (arith, written-length))
      ∙ get_or-append_right (take (t * 401) front) (row ++ old_row) (t * 401) (t * 401 + k) 0 before-length (omega arith)
      ∙ ap (λ i. get_or (row ++ old_row) i 0) place
      ∙ get_or_append_left row old_row 0 k (omega arith)

  later : (back : List ℕ) → back ≡ drop ((t + 1) * 401) store → (u k : ℕ) → t < u → entry (written ++ back) u k ≡ entry store u k
  later back after u k more =
      let place : (t + 1) * 401 + (u * 401 + k - (t + 1) * 401) ≡ u * 401 + k = omega arith in
      get_or-append_right written back ((t + 1) * 401) (u * 401 + k) 0 written-length (omega arith)
      ∙ ap (λ l. get_or l (u * 401 + k - (t + 1) * 401) 0) after
      ∙ get_or-drop ((t + 1) * 401) store (u * 401 + k - (t + 1) * 401) 0
      ∙ ap (λ i. get_or store i 0) place

pub returns-clause-filled : goal.returns-clause-filled
returns-clause-filled g c u a b k low =
    let v = verdicts g.C.RoadCode c.args.self.now.code.now in
    let line = c.args.self.now.line in
    let t = c.args.t in
    let front = c.split_at_mut-before.result.0.now in
    let back = c.split_at_mut-before.result.1.now in
    let row = c.write_row.new.row in
    let store = c.args.store.now in
    let split = c.split_at_mut-before.ensures in
    elim (cases_eq u t) [
      | inl e ↦ subst (λ z. LeastFrom v line.pegs.now line.fixed.now z k (entry (written front row store t split.front_len c.write_row.ensures.count ++ back) z k)) (sym e)
          (subst (LeastFrom v line.pegs.now line.fixed.now t k) (sym (here front row store t split.front_len c.write_row.ensures.count back k low)) (c.write_row.ensures.written k low))
      | inr ne ↦ subst (LeastFrom v line.pegs.now line.fixed.now u k) (sym (later front row store t split.front_len c.write_row.ensures.count back split.back u k (omega arith)))
          (c.requires.after u (omega arith) b k low)
    ]
