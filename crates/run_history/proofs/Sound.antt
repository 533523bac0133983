-- What servers sent is sound; and no host sees a byte where no file has one.
use Rattle.std.proofs.Common.{Bool, List, None, Option, Some, [], ap, arith, false, inl, inr, length, nat_le, nat_lt}
use Rattle.std.proofs.Common.{refl, subst, ltb-true, suc, sym, true, ℕ, ◌&&◌, ◌+◌, ◌==◌, ◌∙◌, ◌∷◌, ◌≡◌, ◌≤◌}
use Rattle.std.proofs.lemmas.Bool.{and_parts}
use Rattle.std.proofs.lemmas.Grind.{common_steps}
use Rattle.std.proofs.lemmas.Option.{slice_get_past}
use Rattle.std.specs.Prelude.{if◌then◌else◌, is_some, slice_get, unwrap_or, ◌-◌}
use Rattle.base_types.specs.Image.{byte_at}
use Rattle.base_types.specs.declared.ids.Fid.{Fid}
use Rattle.base_types.specs.declared.ids.HostId.{HostId}
use Rattle.base_types.specs.declared.ids.Node.{Node}
use Rattle.base_types.specs.declared.ids.Node.TheVariants.{Host, Server}
use Rattle.base_types.specs.declared.ids.ServerId.{ServerId}
use Rattle.base_types.specs.declared.limits.TheConstants.{FILE_BYTES_MAX}
use Rattle.tree_calls.specs.declared.part.Piece.{Piece}
use Rattle.tree_answers.specs.declared.tree.Tree.{Tree}
use Rattle.message_types.specs.Soundness.{IsBody, IsGrant, IsSound, Each as EachSound}
use Rattle.message_types.specs.declared.message.Body.{Body}
use Rattle.message_types.specs.declared.message.Body.TheVariants.{Grant}
use Rattle.message_types.specs.declared.message.Message.{Message}
use Rattle.message_types.specs.declared.telling.Grant.{Grant as GrantOf}
use Rattle.script_lines.specs.declared.script.Script.{Script}
use Rattle.tree_laws.specs.Parts.Part.{ByteAt}
use Rattle.run_rules.specs.Doings.{Doing, SentTo, admitting, after_admitting, after_cause, after_deciding, after_step}
use Rattle.run_rules.specs.Doings.{deciding, doings_of, epoch, sending}
use Rattle.run_rules.specs.Doings.Doing.{Gets}
use Rattle.run_rules.specs.Doings.Doing.{Admits, BeginsEpoch, Flushes, MakesWant, Moves, Reserves, Sent, Took}
use Rattle.run_rules.specs.Doings.Doing.{WritesDown}
use Rattle.run_rules.specs.HostMay.{HostMay}
use Rattle.run_rules.specs.Past.{In, appended}
use Rattle.run_rules.specs.Runs.{StepMeets, StepsMeet}
use Rattle.run_rules.specs.Steps.{is_node, steps_of_host}
use Rattle.run_rules.specs.Views.{byte_in, byte_of, is_shown, part_told}
use Rattle.run_rules.specs.declared.applied.Applied.TheVariants.{Done as IsDone, IsDown, Replied, Stored}
use Rattle.run_rules.specs.declared.applied.Applied.TheVariants.{Moves as IsMoved, Wants as IsWanted}
use Rattle.run_parts.specs.Contents.{Contents, sees, view}
use Rattle.run_contents.proofs.Answers.{wrote_so}
use Rattle.run_contents.proofs.Runs.{own_run}
use Rattle.run_contents.specs.Steps.{HostRun, IsOfJournal, shown, told_by, told_in, written_at, wrote}
use Rattle.run_tokens.proofs.Words.{if_host, own_after}
use Rattle.run_rules.specs.declared.applied.Admission.{Admission}
use Rattle.run_rules.specs.declared.applied.Applied.{Applied}
use Rattle.run_rules.specs.declared.step.Cause.{Cause}
use Rattle.run_rules.specs.declared.step.Cause.TheVariants.{End, Evict, Flushed, Freight, Lapse, Line, Message as Came}
use Rattle.run_rules.specs.declared.step.Cause.TheVariants.{Restart}
use Rattle.run_tokens.proofs.Ships.{ships_keep}
use Rattle.run_rules.specs.Doings.Doing.{Puts}
use Rattle.run_rules.specs.Doings.{after_sending, after_shipping}
use Rattle.run_rules.specs.declared.step.Step.{Step}

-- a sound message with a body
pub record SentSound (script : Script) (b : Body) : Type 0 where
  pub message : Message
  pub sound : IsSound script.roster message
  pub body : message.body ≡ b

module _ (script : Script) (h : HostId) (e n : ℕ) (b : Body) where
  abbrev AllSound : List Doing → Type 0
  AllSound S = SentTo S h e n b → SentSound script b

  other : (S : List Doing) (a : Doing) → (a ≡ Sent h e n b → ⊥) → AllSound S → AllSound (a ∷ S)
  other S a never old (inl q) = absurd (never q)
  other S a never old (inr q) = old q

  sents : (ms : List Message) (S : List Doing) → ((m : Message) → In m ms → IsSound script.roster m) → AllSound S
      → AllSound (appended (sending ms) S)
  sents [] S sound old = old
  sents (m ∷ ms) S sound old = sents ms (Sent m.host m.epoch m.moves m.body ∷ S) (λ x i. sound x (inr i)) now
    where
      now : AllSound (Sent m.host m.epoch m.moves m.body ∷ S)
      now (inl q) = record {
        message = m;
        sound = sound m (inl refl);
        body = let r : Sent m.host m.epoch m.moves m.body ≡ Sent h e n b = q in cc;
      }
      now (inr q) = old q

  admits : (cs : List Admission) (S : List Doing) → AllSound S → AllSound (appended (admitting cs) S)
  admits [] S old = old
  admits (c ∷ cs) S old = admits cs (Admits c.host c.tokens ∷ S) (other S (Admits c.host c.tokens) (λ q. cc) old)

  writes : (xs : List Applied) (S : List Doing) → AllSound S → AllSound (appended (deciding xs) S)
  writes [] S old = old
  writes (IsWanted x ∷ xs) S old = writes xs (MakesWant x ∷ S) (other S (MakesWant x) (λ q. cc) old)
  writes (IsDone x ∷ xs) S old = writes xs (WritesDown x ∷ S) (other S (WritesDown x) (λ q. cc) old)
  writes (Replied x ∷ xs) S old = writes xs S old
  writes (Stored k f ss l ∷ xs) S old = writes xs S old
  writes (IsDown k ∷ xs) S old = writes xs S old
  writes (IsMoved move ∷ xs) S old = writes xs (Moves move ∷ S) (other S (Moves move) (λ q. cc) old)

  causes : (c : Cause) (S : List Doing) → AllSound S → AllSound (after_cause c S)
  causes (Came m) S old = other S (Took m.host m.epoch m.moves m.body) (λ q. cc) old
  causes (Restart line) S old = other S (BeginsEpoch (suc (epoch S))) (λ q. cc) old
  causes Flushed S old = other S Flushes (λ q. cc) old
  causes (Line line) S old = old
  causes Lapse S old = old
  causes Evict S old = old
  causes (Freight freight) S old = other S (Gets freight.server freight.moves freight.body) (λ q. cc) old
  causes End S old = old

  steps : (s : Step) (S : List Doing) → ((m : Message) → In m s.sent → IsSound script.roster m) → AllSound S
      → AllSound (after_step s S)
  steps s S sound old =
      other (after_shipping s S) (Reserves s.reserved) (λ q. cc)
      (ships_keep AllSound (λ T to k c was. other T (Puts to k c) (λ q. cc) was) s.shipped (after_sending s S)
      (sents s.sent (after_admitting s S) sound
      (admits s.admitted (after_deciding s S) (writes s.applied (after_cause s.cause S) (causes s.cause S old)))))

  module _ (start : Tree) (firsts : ServerId → ℕ) (v : ServerId) where
    at_node : (k : Node) (s : Step) (S : List Doing) → ((m : Message) → In m s.sent → IsSound script.roster m)
        → AllSound S → AllSound (if is_node k (Server v) then after_step s S else S)
    at_node (Host k) s S sound old = old
    at_node (Server k) s S sound old = go (k.0 == v.0)
      where
        go : (t : Bool) → AllSound (if t then after_step s S else S)
        go true = steps s S sound old
        go false = old

    pub sent_sound : (past : List Step) → StepsMeet script start firsts past
        → SentTo (doings_of (firsts v) v past) h e n b → SentSound script b
    sent_sound [] run sent = other [] (BeginsEpoch (firsts v)) (λ q. cc) (λ q. elim q [ ]) sent
    sent_sound (s ∷ past) run sent =
        at_node s.node s (doings_of (firsts v) v past) (λ m i. (run.1.3 m i).1) (sent_sound past run.0) sent

-- pieces that lie in a file have no byte beyond its limit
piece_beyond : (piece : Piece) (at : ℕ) → FILE_BYTES_MAX ≤ at → piece.from + length piece.bytes ≤ FILE_BYTES_MAX
    → byte_in piece at ≡ None
piece_beyond piece at far ends = go (nat_le piece.from at)
  where
    go : (b : Bool) → (if b then slice_get piece.bytes (at - piece.from) else None) ≡ None
    go true =
        let f : 65536 ≤ at = far in
        let k : piece.from + length piece.bytes ≤ 65536 = ends in
        slice_get_past piece.bytes (at - piece.from) (omega (arith, f, k))
    go false = refl

bytes_on : (piece : Piece) (ps : List Piece) (at : ℕ) → byte_in piece at ≡ None → byte_of ps at ≡ None
    → byte_of (piece ∷ ps) at ≡ None
bytes_on piece ps at e rest = ap (λ (o : Option ℕ). if is_some o then o else byte_of ps at) e ∙ rest

bytes_beyond : (ps : List Piece) (at : ℕ) → FILE_BYTES_MAX ≤ at
    → EachSound (λ (piece : Piece). piece.from + length piece.bytes ≤ FILE_BYTES_MAX) ps → byte_of ps at ≡ None
bytes_beyond [] at far ends = refl
bytes_beyond (piece ∷ ps) at far ends =
    bytes_on piece ps at (piece_beyond piece at far ends.0) (bytes_beyond ps at far ends.1)

-- a Write that fits into a file has no byte beyond the limit
written_near : (from : ℕ) (bytes : List ℕ) (at : ℕ) → FILE_BYTES_MAX ≤ at
    → nat_lt FILE_BYTES_MAX (from + length bytes) ≡ false → (x : ℕ)
    → written_at (Some (record { from = from; bytes = bytes })) 0 (ByteAt at) ≡ Some x → ⊥
written_near from bytes at far fits x e = go (nat_le from at && nat_lt at (from + length bytes)) refl e
  where
    go : (b : Bool) → (nat_le from at && nat_lt at (from + length bytes)) ≡ b
        → (if b then Some (byte_at bytes (at - from)) else None) ≡ Some x → ⊥
    go false q e = let non : None ≡ Some x = e in cc
    go true q e =
        let f : 65536 ≤ at = far in
        let k : nat_lt 65536 (from + length bytes) ≡ false = fits in
        let p : nat_lt at (from + length bytes) ≡ true =
        (and_parts (nat_le from at) (nat_lt at (from + length bytes)) q).1 in
        let lt = ltb-true at (from + length bytes) p in
        let le : from + length bytes ≤ 65536 = grind (arith, common_steps, k) in
        omega (arith, f, lt, le)

-- what a step writes of a byte beyond the limit, and what it is shown of it
module _ (script : Script) (h : HostId) (c : Contents) (same : IsOfJournal c) (f : Fid) (at : ℕ)
    (far : FILE_BYTES_MAX ≤ at) where
  shown_zero : (s : Step) (old : ℕ) → ((m : Message) (g : GrantOf) → s.cause ≡ Came m → m.body ≡ Grant g
      → part_told g (ByteAt at) ≡ 0) → old ≡ 0 → unwrap_or (shown s f (ByteAt at)) old ≡ 0
  shown_zero s old none zero = go (is_shown s f (ByteAt at)) s.cause none
    where
      body : (b : Body) → ((g : GrantOf) → b ≡ Grant g → part_told g (ByteAt at) ≡ 0)
          → unwrap_or (told_by b (ByteAt at)) old ≡ 0
      body (Grant g) all = all g refl
      body _ all = zero

      go : (b : Bool) (x : Cause) → ((m : Message) (g : GrantOf) → x ≡ Came m → m.body ≡ Grant g
          → part_told g (ByteAt at) ≡ 0) → unwrap_or (if b then told_in x (ByteAt at) else None) old ≡ 0
      go false x all = zero
      go true (Came m) all = body m.body (λ g e. all m g refl e)
      go true _ all = zero

  module _ (past : List Step) (s : Step) (run : HostRun script h past) (m : HostMay script h past s) where
    written_zero : (old : ℕ) → old ≡ 0 → unwrap_or (wrote past s f (ByteAt at)) old ≡ 0
    written_zero old zero = go (wrote past s f (ByteAt at)) refl
      where
        go : (o : Option ℕ) → wrote past s f (ByteAt at) ≡ o → unwrap_or o old ≡ 0
        go None e = zero
        go (Some x) e =
            let w = wrote_so c same script h past s run m f (ByteAt at) x (same.wrote past s f (ByteAt at) ∙ e) in
            absurd (written_near w.from w.bytes at far w.look.target.fits x (sym (w.value (ByteAt at)) ∙ e))

-- no host sees a byte where no file has one
module _ (script : Script) (start : Tree) (firsts : ServerId → ℕ) (c : Contents) (same : IsOfJournal c) (h : HostId)
    (f : Fid) (at : ℕ) (far : FILE_BYTES_MAX ≤ at) where
  told_zero : (past : List Step) → StepsMeet script start firsts past → (s : Step)
      → StepMeets script start firsts (Host h) past s → (m : Message) (g : GrantOf) → s.cause ≡ Came m
      → m.body ≡ Grant g → part_told g (ByteAt at) ≡ 0
  told_zero past run s may m g cause body =
      let sent = sent_sound script h m.epoch m.moves m.body start firsts m.server past run (may.1 m cause).2 in
      let k : IsGrant sent.message g =
      subst (λ (z : Body). IsBody script.roster sent.message z) (sent.body ∙ body) sent.sound.body in
      ap (λ (o : Option ℕ). unwrap_or o 0) (bytes_beyond g.pieces at far k.told.bytes.ends)

  -- what is seen then, once a step has taken its tokens
  pub sees_zero : (past : List Step) → StepsMeet script start firsts past → (s : Step)
      → StepMeets script start firsts (Host h) past s → view c (steps_of_host h past) f (ByteAt at) ≡ 0
      → sees c (steps_of_host h past) s f (ByteAt at) ≡ 0
  sees_zero past run s may old =
      ap (λ (o : Option ℕ). unwrap_or o (view c (steps_of_host h past) f (ByteAt at))) (same.shown s f (ByteAt at))
      ∙ shown_zero script h c same f at far s (view c (steps_of_host h past) f (ByteAt at)) (told_zero past run s may) old

  view_node : (k : Node) (past : List Step) → StepsMeet script start firsts past → (s : Step)
      → StepMeets script start firsts k past s → view c (steps_of_host h past) f (ByteAt at) ≡ 0
      → view c (own_after h k s (steps_of_host h past)) f (ByteAt at) ≡ 0
  view_node (Server k) past run s may old = old
  view_node (Host k) past run s may old =
      if_host (λ A. view c A f (ByteAt at) ≡ 0) k h (s ∷ steps_of_host h past) (steps_of_host h past)
      (λ one. let mine = subst (λ (j : HostId). StepMeets script start firsts (Host j) past s) one may in
      ap (λ (o : Option ℕ). unwrap_or o (sees c (steps_of_host h past) s f (ByteAt at)))
      (same.wrote (steps_of_host h past) s f (ByteAt at))
      ∙ written_zero script h c same f at far (steps_of_host h past) s (own_run script start firsts past run h) mine.0
      (sees c (steps_of_host h past) s f (ByteAt at)) (sees_zero past run s mine old)) old

  pub view_zero : (past : List Step) → StepsMeet script start firsts past → view c (steps_of_host h past) f (ByteAt at) ≡ 0
  view_zero [] run = refl
  view_zero (s ∷ past) run = view_node s.node past run.0 s run.1.0 (view_zero past run.0)
