-- Where all that is sent is sound, so is all that is on its way, and what is given.
use Rattle.std.proofs.Common.{◌≡◌, ◌⊎◌, ⊎_elim, inl, inr, ℕ, ◌+◌, Bool, true, false, List, [], ◌∷◌, ◌++◌, map, Option}
use Rattle.std.proofs.Common.{None, Some, refl, sym, ap, ◌∙◌, subst}
use Rattle.std.specs.Prelude.{option_map, if◌then◌else◌}
use Rattle.base_types.specs.declared.ids.Node.{Node}
use Rattle.tree_calls.specs.declared.roster.Roster.{Roster}
use Rattle.message_types.specs.Soundness.{IsSound}
use Rattle.message_types.specs.declared.message.Message.{Message}
use Rattle.hub_board.specs.Hubs.{Hubbed, flagged, flags_of, given_of, with_sent, with_steps, without}
use Rattle.hub_board.specs.declared.given.Gift.{Gift}
use Rattle.hub_board.specs.declared.given.Gift.TheVariants.{Message as Copied, Begun, Raised, Lapse}
use Rattle.hub_board.specs.declared.given.Given.TheVariants.{Message as Came, Raised as WasRaised}
use Rattle.hub_turns.specs.Meetings.{AreSent, AreSound, IsGivenSound}
use Rattle.run_rules.specs.Past.{In}
use Rattle.run_rules.specs.Plans.{ways_in}
use Rattle.run_rules.specs.declared.step.Step.{Step}
use Rattle.run_rules.specs.declared.fate.Way.{Way}
use Rattle.run_rules.specs.declared.fate.Way.TheVariants.{Free}
use Rattle.hub_wire.specs.Networks.{Network, next_copy, next_fate, with_flag, with_message, with_messages, with_step}
use Rattle.hub_wire.specs.Networks.{without_copy}
use Rattle.hub_wire.specs.Packets.{is_held_by, raised_packet}
use Rattle.hub_wire.specs.declared.packet.Packet.{Packet}
use Rattle.hub_wire.proofs.Takes.{takes_first}

in_map : {A B : Type 0} (f : A → B) (b : B) (xs : List A) → In b (map f xs) → (x : A) × In x xs × (b ≡ f x)
in_map f b [] i = absurd i
in_map f b (x ∷ xs) i = ⊎_elim
    (λ (e : b ≡ f x). (x, inl refl, e))
    (λ (k : In b (map f xs)). let j = in_map f b xs k in (j.0, inr j.1, j.2))
    i

in_append : {A : Type 0} (x : A) (xs ys : List A) → In x (xs ++ ys) → In x xs ⊎ In x ys
in_append x [] ys h = inr h
in_append {A} x (y ∷ xs) ys h = ⊎_elim
    (λ (e : x ≡ y). inl (inl e))
    (λ (i : In x (xs ++ ys)). ⊎_elim (λ (a : In x xs). inl (inr a)) (λ (b : In x ys). inr b) (in_append x xs ys i))
    h

-- one that is in a list without some element is in the list
in_more : {A : Type 0} (x y : A) (xs ys : List A) → In x (xs ++ ys) → In x (xs ++ y ∷ ys)
in_more x y [] ys h = inr h
in_more x y (z ∷ xs) ys h =
    ⊎_elim (λ (e : x ≡ z). inl e) (λ (i : In x (xs ++ ys)). inr (in_more x y xs ys i)) h

in_middle : {A : Type 0} (x : A) (xs ys : List A) → In x (xs ++ x ∷ ys)
in_middle x [] ys = inl refl
in_middle x (z ∷ xs) ys = inr (in_middle x xs ys)

module _ (roster : Roster) where
  message_sound : (net : Network) (m : Message) → AreSound roster net → IsSound roster m
      → AreSound roster (with_message net m)
  message_sound net m are is p i =
      let make : Way → Packet = λ way. record { message = m; way = way; step = net.steps } in
      ⊎_elim
      (λ (a : In p net.packets). are p a)
      (λ (b : In p (map make (ways_in (next_fate net m)))).
      let j = in_map make p (ways_in (next_fate net m)) b in
      subst (IsSound roster) (sym (ap (λ (q : Packet). q.message) j.2)) is)
      (in_append p net.packets (map make (ways_in (next_fate net m))) i)

  messages_sound : (ms : List Message) (net : Network) → AreSound roster net
      → ((m : Message) → In m ms → IsSound roster m) → AreSound roster (with_messages net ms)
  messages_sound [] net are h = are
  messages_sound (m ∷ ms) net are h =
      messages_sound ms (with_message net m) (message_sound net m are (h m (inl refl))) (λ x i. h x (inr i))

  sent_sound : (steps : List Step) (net : Network) → AreSound roster net → AreSent roster steps
      → AreSound roster (with_sent net steps)
  sent_sound [] net are h = are
  sent_sound (s ∷ steps) net are h =
      sent_sound steps (with_step net s.sent)
      (messages_sound s.sent (record net { steps = net.steps + 1 }) are (h s (inl refl)))
      (λ x i. h x (inr i))

  raised_same : (b : Bool) (p : Packet)
      → (let raised : Packet = if b then record p { way = Free } else p in raised.message ≡ p.message)
  raised_same true p = refl
  raised_same false p = refl

  flag_sound : (flag : List ℕ) (net : Network) → AreSound roster net → AreSound roster (with_flag flag net)
  flag_sound flag net are p i =
      let j = in_map (raised_packet flag) p net.packets i in
      let same : p.message ≡ (j.0).message =
      ap (λ (q : Packet). q.message) j.2 ∙ raised_same (is_held_by flag (j.0).way) j.0 in
      subst (IsSound roster) (sym same) (are j.0 j.1)

  flags_sound : (flags : List (List ℕ)) (net : Network) → AreSound roster net → AreSound roster (flagged flags net)
  flags_sound [] net are = are
  flags_sound (flag ∷ flags) net are = flags_sound flags (with_flag flag net) (flag_sound flag net are)

  -- steps that send sound messages leave all sound
  pub steps_sound : (hub : Hubbed) (node : Node) (steps : List Step) → AreSound roster hub.net → AreSent roster steps
      → AreSound roster (with_steps hub node steps).net
  steps_sound hub node steps are h =
      flags_sound (flags_of (record hub { net = with_sent hub.net steps }) node steps) (with_sent hub.net steps)
      (sent_sound steps hub.net are h)

  copy_sound : (net : Network) (node : Node) (o : Option Message) → next_copy net node ≡ o → AreSound roster net
      → AreSound roster (without_copy node net) × ((m : Message) → o ≡ Some m → IsSound roster m)
  copy_sound net node None e are =
      let same = ((takes_first net node).1 e).1 in
      (subst (AreSound roster) (sym same) are, λ m is. absurd (cc))
  copy_sound net node (Some m) e are =
      let t = (takes_first net node).0 m e in (
        (λ p i. are p (subst (In p) (sym t.among)
            (in_more p t.packet t.earlier t.later (subst (In p) t.left i)))),
        (λ x is.
            let same : t.packet.message ≡ x = cc in
            subst (IsSound roster) same (are t.packet (subst (In t.packet) (sym t.among)
            (in_middle t.packet t.earlier t.later)))),
      )

  came_is : (o : Option Message) (m : Message) → option_map (λ (x : Message). Came x) o ≡ Some (Came m) → o ≡ Some m
  came_is None m e = absurd (cc)
  came_is (Some x) m e = cc

  raised_not : (o : Option (List ℕ)) (m : Message) → option_map (λ (flag : List ℕ). WasRaised flag) o ≡ Some (Came m)
      → ⊥
  raised_not None m e = absurd (cc)
  raised_not (Some x) m e = absurd (cc)

  -- what is given is sound, and leaves all sound
  pub gift_sound : (hub : Hubbed) (node : Node) (gift : Option Gift) → AreSound roster hub.net
      → AreSound roster (without gift node hub).net × IsGivenSound roster (given_of hub node gift)
  gift_sound hub node None are = (are, λ m e. absurd (cc))
  gift_sound hub node (Some Copied) are =
      let c = copy_sound hub.net node (next_copy hub.net node) refl are in
      (c.0, λ m e. c.1 m (came_is (next_copy hub.net node) m e))
  gift_sound hub node (Some Begun) are = (are, λ m e. absurd (cc))
  gift_sound hub node (Some Raised) are = (are, λ m e. absurd (raised_not _ m e))
  gift_sound hub node (Some Lapse) are = (are, λ m e. absurd (cc))
