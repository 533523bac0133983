-- What a caller of a cell may cite.
use Rattle.std.proofs.Common.{◌≡◌, ℕ, List, ◌++◌, length, drop, sym, ap, ◌∙◌, append_assoc}
use Rattle.std.proofs.Math.Seq.{drop-append_seam}
use Rattle.std.proofs.lemmas.List.{map-append}
use Rattle.hub_cell.specs.Lists.{IsPrefix, entries, numbered}
use Rattle.hub_cell.specs.Passes.{PassView, IsTurn}
use Rattle.hub_cell.proofs.Logs.{entries-numbered}

module _ {T E W : Type 0} (list : T → List E) (fit : T → Type 0) (does : W → T → W → T → Type 0)
    (pass pass' : PassView E) (work work' : W) (t : IsTurn list fit does pass pass' work work') where
  -- where the work says what it added, that is what the pass has made
  pub turn_makes : (es : List E) → list t.after ≡ list t.before ++ es → entries pass'.made ≡ entries pass.made ++ es
  turn_makes es grown =
      let same : t.added ≡ es = sym (drop-append_seam (list t.before) t.added) ∙ ap (drop (length (list t.before)))
      (sym t.grown ∙ grown) ∙ drop-append_seam (list t.before) es in
      ap (λ q. entries q.made) t.pass_is
      ∙ map-append (λ (x : ℕ × E). x.1) pass.made (numbered (length (list t.before)) t.added)
      ∙ ap (λ l. entries pass.made ++ l) (entries-numbered (length (list t.before)) t.added ∙ same)

  -- the pass stays with its cell and keeps its seats
  pub turn_stays : (pass'.cell ≡ pass.cell) × (pass'.spare ≡ pass.spare)
  turn_stays = (ap (λ q. q.cell) t.pass_is, ap (λ q. q.spare) t.pass_is)

  -- what the pass had seen it still has
  pub turn_sees : IsPrefix pass.seen pass'.seen
  turn_sees = (
    t.known.0 ++ t.added,
    ap (λ q. q.seen) t.pass_is ∙ t.grown ∙ ap (λ l. l ++ t.added) t.known.1 ∙
        append_assoc pass.seen t.known.0 t.added,
  )
