use Rattle.std.proofs.Common.{true, ◌≡◌, ◌∷◌, ◌++◌, [], List, Option, OnErr, OnOk, Result, Ok, Err, Some, subst, sym}
use Rattle.std.proofs.Common.{ap, ◌∙◌}
use Rattle.message_types.specs.declared.message.Message.{Message}
use Rattle.host_gives.specs.declared.slots.Start.{Start}
use Rattle.token_types.specs.declared.token.TokenId.{TokenId}
use Rattle.host_gives.specs.Giving.{names}
use Rattle.host_gives.specs.Named.{AreNamed, IdKey, Keeps, has_id}
use Rattle.host_gives.specs.Slots.{AreStarts, held_in}
use Rattle.host_gives.proofs.Emptied.{held_more}
use Rattle.host_gives.proofs.Naming.{named_added, named_kept, named_one}
use Rattle.host_gives.proofs.Starting.{right_added}
use Rattle.host_gives.proofs.slots.Slots.add.Goals as goal

right : {T E : Type 0} (r : Result T E) (xs ys : List (Option Message)) (m : Message) (starts : List Start) →
    AreStarts xs starts → OnOk r (ys ≡ xs ++ Some m ∷ []) → OnErr r (ys ≡ xs) → AreStarts ys starts
right (Ok _) xs ys m starts are e _ =
    subst (λ zs. AreStarts zs starts) (sym e) (right_added xs (Some m ∷ []) starts are)
right (Err _) xs ys m starts are _ e = subst (λ zs. AreStarts zs starts) (sym e) are

after : {T E : Type 0} (r : Result T E) (xs ys : List (Option Message)) (m : Message) (old : List Message) →
    held_in xs ≡ old → OnOk r (ys ≡ xs ++ Some m ∷ []) → OnOk r (held_in ys ≡ old ++ m ∷ [])
after (Ok _) xs ys m old is e = ap held_in e ∙ held_more xs (Some m ∷ []) ∙ ap (λ zs. zs ++ m ∷ []) is
after (Err _) xs ys m old is e = e

named : {T E : Type 0} (r : Result T E) (xs ys : List (Option Message)) (m : Message) (old new : List IdKey) →
    AreNamed xs old → Keeps old new → ((id : TokenId) → names id m ≡ true → has_id new id ≡ true) →
    OnOk r (ys ≡ xs ++ Some m ∷ []) → OnErr r (ys ≡ xs) → AreNamed ys new
named (Ok _) xs ys m old new are keeps noted e _ =
    subst (λ zs. AreNamed zs new) (sym e) (named_added xs (Some m) old new keeps are (named_one m new noted))
named (Err _) xs ys m old new are keeps noted _ e =
    subst (λ zs. AreNamed zs new) (sym e) (named_kept xs old new keeps are)

pub invariant_of-self : goal.invariant_of-self
invariant_of-self c = (
  c.self.invariant.0,
  named_kept c.self.inside.slots c.self.inside.named c.note.new.self c.note.ensures.keeps c.self.invariant.1,
)

pub invariant_of-self-2 : goal.invariant_of-self-2
invariant_of-self-2 c = (
  right c.push_counted.result c.self.inside.slots c.push_counted.new.slots c.args.give.now c.self.inside.starts
      c.self.invariant.0 c.push_counted.ensures.after c.push_counted.ensures.err,
  named c.push_counted.result c.self.inside.slots c.push_counted.new.slots c.args.give.now c.self.inside.named
      c.note.new.self c.self.invariant.1 c.note.ensures.keeps c.in_ok-note.ensures.noted c.push_counted.ensures.after
      c.push_counted.ensures.err,
)

pub returns-clause-after : goal.returns-clause-after
returns-clause-after c =
    after c.push_counted.result c.self.inside.slots c.push_counted.new.slots c.args.give.now _ c.self.view_is
    c.push_counted.ensures.after
