use Rattle.std.proofs.Common.{◌≡◌, ◌∙◌, ◌<◌, refl, sym, ap, subst, arith, length, List, ℕ, [], ◌∷◌, ◌++◌, true, false}
use Rattle.std.proofs.lemmas.List.{length_push}
use Rattle.std.proofs.lemmas.Result.{err_from_is_err_and}
use Rattle.std.specs.Prelude.{Contains}
use Rattle.disk_classes.specs.Notes.{class_of, joined_at, AreEndedAll}
use Rattle.disk_classes.specs.declared.member.Noted.{Noted as Kept}
use Rattle.disk_classes.proofs.Ended.{read_at, class_at, ended_at, class_live, class_named, class_within, joined_within}
use Rattle.disk_classes.proofs.Forcing.{below_none, committed_more, number_passed, goes_below, goes_same, all_there}
use Rattle.disk_classes.proofs.classes.Classes.commit_ended.Goals as goal
use Rattle.disk_classes.proofs.classes.Classes.commit_ended.Goals.{then-is_ended+then-has_ended+in_ok-commit_class, else-is_ended, else-is_ended-via-then-is_ended+else-has_ended, else-is_ended-via-else-is_ended}

pub loop-number-init : goal.loop-number-init
loop-number-init g c = ([], below_none _ _ c.args.self.now c.requires.sound, refl, omega arith)

pub has_ended-requires-clause-class : goal.has_ended-requires-clause-class
has_ended-requires-clause-class g c =
    subst (λ (l : List Kept). c.get-one.result.now.class < length l) (sym c.as_slice.ensures)
    (class_within c.loop-number.self.members.noted c.loop-number.invariant.1.sound.partition c.loop-number.number c.get-one.result.now (let a = c.loop-number-test.true in let b = c.len-number-end.ensures in let d = c.loop-number.invariant.1.size in omega (arith, a, b, d)) c.get-one.ensures (c.is_ended.ensures.0 c.if-is_ended.true))

pub has_ended-requires-clause-within : goal.has_ended-requires-clause-within
has_ended-requires-clause-within g c =
    subst (λ (l : List Kept). (m : ℕ) → Contains (joined_at l c.get-one.result.now.class) m → m < length l) (sym c.as_slice.ensures)
    (joined_within c.loop-number.self.members.noted c.loop-number.invariant.1.sound.partition c.loop-number.number c.get-one.result.now (let a = c.loop-number-test.true in let b = c.len-number-end.ensures in let d = c.loop-number.invariant.1.size in omega (arith, a, b, d)) c.get-one.ensures (c.is_ended.ensures.0 c.if-is_ended.true))

pub commit_class-requires-clause-live : goal.commit_class-requires-clause-live
commit_class-requires-clause-live g c = class_live c.loop-number.self.members.noted c.loop-number.invariant.1.sound.partition c.loop-number.number c.get-one.result.now (let a = c.loop-number-test.true in let b = c.len-number-end.ensures in let d = c.loop-number.invariant.1.size in omega (arith, a, b, d)) c.get-one.ensures (c.is_ended.ensures.0 c.if-is_ended.true)

pub commit_class-requires-clause-named : goal.commit_class-requires-clause-named
commit_class-requires-clause-named g c = class_named c.loop-number.self.members.noted c.loop-number.invariant.1.sound.partition c.loop-number.number c.get-one.result.now (let a = c.loop-number-test.true in let b = c.len-number-end.ensures in let d = c.loop-number.invariant.1.size in omega (arith, a, b, d)) c.get-one.ensures (c.is_ended.ensures.0 c.if-is_ended.true)

pub returns-in_err-commit_class-clause-err : goal.returns-in_err-commit_class-clause-err
returns-in_err-commit_class-clause-err g c =
    let p = err_from_is_err_and c.from_residual.result c.from_residual.ensures.1 in
    rw p.1 (
      c.loop-number.invariant.0,
      goes_same _ _ c.args.self.now c.loop-number.self c.commit_class.new.self c.loop-number.invariant.0 (goes_below _ _ c.args.self.now c.requires.sound c.loop-number.number c.loop-number.invariant.0 c.loop-number.self c.loop-number.invariant.1)
          c.in_err-commit_class.ensures.err c.in_err-commit_class.ensures.members c.commit_class.ensures.quiet,
    )

pub loop-number-preserved : goal.loop-number-preserved
loop-number-preserved g c = elim c.if-is_ended.branch [
  | then-is_ended+then-has_ended+in_ok-commit_class w ↦ (
    c.loop-number.invariant.0 ++ c.loop-number.number ∷ [],
    rw w.self-is (committed_more _ _ c.args.self.now c.requires.sound c.loop-number.number c.loop-number.invariant.0 c.loop-number.self c.loop-number.invariant.1
        c.get-one.result.now.class (class_at c.loop-number.self.members.noted c.loop-number.invariant.1.sound.partition c.loop-number.number c.get-one.result.now (let a = c.loop-number-test.true in let b = c.len-number-end.ensures in let d = c.loop-number.invariant.1.size in omega (arith, a, b, d)) c.get-one.ensures (c.is_ended.ensures.0 w.if-is_ended.true))
        (ended_at c.loop-number.self.members.noted c.loop-number.invariant.1.sound.partition c.loop-number.number c.get-one.result.now (let a = c.loop-number-test.true in let b = c.len-number-end.ensures in let d = c.loop-number.invariant.1.size in omega (arith, a, b, d)) c.get-one.ensures (c.is_ended.ensures.0 w.if-is_ended.true))
        (subst (λ (l : List Kept). AreEndedAll l (joined_at l c.get-one.result.now.class)) w.as_slice.ensures (w.has_ended.ensures.0 w.if-has_ended.true))
        w.commit_class.new.self w.commit_class.ensures.sound w.in_ok-commit_class.ensures.log w.in_ok-commit_class.ensures.noted w.in_ok-commit_class.ensures.put w.in_ok-commit_class.ensures.kept w.commit_class.ensures.quiet),
    (let a = w.count-is in let b = c.loop-number.invariant.2 in let d = length_push c.loop-number.invariant.0 c.loop-number.number in omega (arith, a, b, d)),
    (let a = w.count-is in let b = c.loop-number.invariant.3 in omega (arith, a, b)),
  )
  | else-is_ended w ↦ (
    c.loop-number.invariant.0,
    rw w.self-is (elim w.else-is_ended.branch [
      | else-is_ended-via-then-is_ended+else-has_ended v ↦ number_passed _ _ c.args.self.now c.requires.sound c.loop-number.number c.loop-number.invariant.0 c.loop-number.self c.loop-number.invariant.1
          c.get-one.result.now.class (class_at c.loop-number.self.members.noted c.loop-number.invariant.1.sound.partition c.loop-number.number c.get-one.result.now (let a = c.loop-number-test.true in let b = c.len-number-end.ensures in let d = c.loop-number.invariant.1.size in omega (arith, a, b, d)) c.get-one.ensures (c.is_ended.ensures.0 v.if-is_ended.true))
          (λ ended all. absurd (let t : v.has_ended.result ≡ true = v.has_ended.ensures.1 (subst (λ (l : List Kept). AreEndedAll l (joined_at l c.get-one.result.now.class)) (sym v.as_slice.ensures) all) in
          let f : v.has_ended.result ≡ false = v.if-has_ended.false in let e : true ≡ false = sym t ∙ f in cc))
      | else-is_ended-via-else-is_ended v ↦ number_passed _ _ c.args.self.now c.requires.sound c.loop-number.number c.loop-number.invariant.0 c.loop-number.self c.loop-number.invariant.1
          (class_of c.loop-number.self.members.noted c.loop-number.number) refl
          (λ ended all. absurd (let t : c.is_ended.result ≡ true = c.is_ended.ensures.1 (ap (λ (n : Kept). n.standing) (read_at c.loop-number.self.members.noted c.loop-number.number c.get-one.result.now (let a = c.loop-number-test.true in let b = c.len-number-end.ensures in let d = c.loop-number.invariant.1.size in omega (arith, a, b, d)) c.get-one.ensures) ∙ ended) in
          let f : c.is_ended.result ≡ false = v.if-is_ended.false in let e : true ≡ false = sym t ∙ f in cc))
    ]),
    w.count-is ∙ c.loop-number.invariant.2,
    (let a = w.count-is in let b = c.loop-number.invariant.3 in omega (arith, a, b)),
  )
]

pub returns-clause-ok : goal.returns-clause-ok
returns-clause-ok g c = (
  c.loop-number.invariant.0,
  goes_below _ _ c.args.self.now c.requires.sound c.loop-number.number c.loop-number.invariant.0 c.loop-number.self c.loop-number.invariant.1,
  all_there _ _ c.args.self.now c.requires.sound c.loop-number.number c.loop-number.invariant.0 c.loop-number.self c.loop-number.invariant.1 (let a = c.loop-number-test.false in let b = c.len-number-end.ensures in omega (arith, a, b)),
  c.loop-number.invariant.2,
)
