use Rattle.std.proofs.Common.{◌≡◌, [], ◌∷◌, ◌++◌, IsTrue, List, OnErr, OnOk, Result, Ok, Err, subst, sym, ap, ◌∙◌}
use Rattle.message_types.specs.declared.message.Message.{Message}
use Rattle.host_gives.specs.declared.counters.Counter.{Counter}
use Rattle.host_gives.specs.Giving.{Giving, IsSound, counted, give_of, is_next}
use Rattle.host_gives.proofs.Staying.{sound_added}
use Rattle.host_gives.proofs.gives.Gives.add.Goals as goal

-- sound afterwards, whether the give-back was added or not
either : {T E : Type 0} (r : Result T E) (old : Giving) (message : Message) (gives : List Message)
    (counters : List Counter) → IsTrue (is_next old message) → IsSound old →
    OnOk r (gives ≡ old.gives ++ message ∷ []) → OnOk r (counters ≡ counted old.counters (give_of message)) →
    OnErr r (gives ≡ old.gives) → OnErr r (counters ≡ old.counters) →
    IsSound (record { gives = gives; counters = counters })
either (Ok _) old message gives counters next sound g cs _ _ =
    subst (λ xs. IsSound (record { gives = xs; counters = counters })) (sym g)
    (subst (λ xs. IsSound (record { gives = old.gives ++ message ∷ []; counters = xs })) (sym cs)
    (sound_added old message next sound))
either (Err _) old message gives counters next sound _ _ g cs =
    subst (λ xs. IsSound (record { gives = xs; counters = counters })) (sym g)
    (subst (λ xs. IsSound (record { gives = old.gives; counters = xs })) (sym cs) sound)

pub invariant_of-self : goal.invariant_of-self
invariant_of-self c =
    let old : Giving = record { gives = c.self.inside.gives; counters = c.self.inside.counters } in
    let next : IsTrue (is_next old c.args.give.now) =
    subst (λ s. IsTrue (is_next s c.args.give.now)) (sym c.self.view_is) c.requires in
    either c.add.result old c.args.give.now c.add.new.self c.add.new.counters next c.self.invariant
    c.add.ensures.after c.add.ensures.counts c.add.ensures.err c.add.ensures.err_counts
