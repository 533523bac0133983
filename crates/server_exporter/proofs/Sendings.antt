-- What becomes of a want that waits, by the tables and the store, is what the rules say of it.
use Rattle.std.proofs.Common.{◌≡◌, ◌⊎◌, Bool, true, false, not, List, [], ◌∷◌, Option, None, Some}
use Rattle.std.proofs.Common.{if◌then◌else◌, inl, inr, refl, sym, ◌∙◌, subst}
use Rattle.std.specs.Prelude.{is_none, is_some}
use Rattle.std.proofs.lemmas.Bool.{cases_Bool, false≢true}
use Rattle.base_types.specs.declared.ids.FilesetId.{FilesetId}
use Rattle.base_types.specs.declared.user.User.{User}
use Rattle.tree_answers.specs.declared.tree.Tree.{Tree}
use Rattle.tree_calls.specs.Rosters.{user_of}
use Rattle.tree_calls.specs.declared.reply.Refusal.{Refusal}
use Rattle.tree_calls.specs.declared.reply.Refusal.TheVariants.{NoFileset}
use Rattle.token_manager.specs.declared.want.Outlook.{Outlook}
use Rattle.token_manager.specs.declared.want.Outlook.TheVariants.{Granted as CanBeGranted, Refused as IsRefused}
use Rattle.token_manager.specs.declared.want.Outlook.TheVariants.{Waits as HasToWait}
use Rattle.token_types.specs.declared.token.Token.{Token}
use Rattle.message_types.specs.declared.asking.Change.{Change as ChangeOf}
use Rattle.message_types.specs.declared.asking.Fetch.{Fetch as FetchOf}
use Rattle.message_types.specs.declared.telling.DoneIs.TheVariants.{Again, Known}
use Rattle.run_rules.specs.Doings.{Doing, Granted, Pinned}
use Rattle.run_rules.specs.Past.{In}
use Rattle.run_rules.specs.ServerDecides.{IsOfRow, NotRefused}
use Rattle.run_rules.specs.Wants.{CanDecide, CanGrant, CanRefuse, is_use}
use Rattle.run_rules.specs.declared.applied.Request.TheVariants.{Change as Changes, Fetch as Asks}
use Rattle.run_rules.specs.declared.applied.Wanted.{Wanted}
use Rattle.server_decides.specs.StoreKeeping.{StandsFor}
use Rattle.store_state.specs.declared.state.StoreState.{StoreState}
use Rattle.server_decides.specs.Asking.{entered_told, refusal_told}
use Rattle.server_decides.specs.Found.{Found}
use Rattle.server_tables.specs.Standing.{Stands}
use Rattle.server_tables.specs.declared.pending.Pending.{Pending}
use Rattle.server_tables.specs.declared.tables.Tables.{Tables}
use Rattle.server_tables.proofs.Numbered.{one_each}
use Rattle.server_tables.proofs.Outlooks.{outlook_grants, outlook_refuses, outlook_waits}
use Rattle.server_decides.specs.Taking.{Whether}
use Rattle.server_decides.specs.Deciding.{Compared, found_on, is_of_row, is_waiting, outlook_at}
use Rattle.server_decides.specs.Serving.{IsServed}
use Rattle.server_decides.specs.Sending.{IsSending, IsSendingOf, IsUsing, entering_by, is_granted}
use Rattle.server_decides.specs.declared.sending.Sending.{Sending}
use Rattle.server_decides.specs.declared.sending.Sending.TheVariants.{Grant, Say, Use}
use Rattle.server_exporter.proofs.Reasons.{can_decide, its_user, not_refused, not_row, refused_on, row}
use Rattle.server_exporter.proofs.Reasons.{row_of}

module _ (past : List Doing) (x : Tables) (st : StoreState) (tree : Tree) (z : Stands past x) (s : IsServed x st)
    (k : StandsFor tree st) (p : Pending) (i : In p x.pending) where
  abbrev w : Wanted
  w = p.wanted

  abbrev outlook : Outlook
  outlook = outlook_at x p.number

  single : (a b : Pending) → In a x.pending → In b x.pending → a.number ≡ b.number → a ≡ b
  single = one_each x.pending s.counted.rising

  can_by : (o : Outlook) → outlook ≡ o → is_granted o ≡ true → CanGrant x.server past w
  can_by HasToWait e q = absurd (cc)
  can_by CanBeGranted e q = outlook_grants past x z single p i e
  can_by (IsRefused t) e q = absurd (cc)

  can : is_granted outlook ≡ true → CanGrant x.server past w
  can e = can_by outlook refl e

  granted_is : (o : Outlook) → is_granted o ≡ true → o ≡ CanBeGranted
  granted_is HasToWait q = absurd (cc)
  granted_is CanBeGranted q = refl
  granted_is (IsRefused t) q = absurd (cc)

  -- it has to wait, or this becomes of it
  parts : (d : Option Sending) → IsSending x st p d → ((is_waiting outlook ≡ true) × (d ≡ None))
      ⊎ ((is_waiting outlook ≡ false) × IsSendingOf x st p (is_granted outlook) d w.request)
  parts d h = by (is_waiting outlook) refl h
    where
      by : (b : Bool) → is_waiting outlook ≡ b
          → Whether b (d ≡ None) (IsSendingOf x st p (is_granted outlook) d w.request)
          → ((is_waiting outlook ≡ true) × (d ≡ None))
          ⊎ ((is_waiting outlook ≡ false) × IsSendingOf x st p (is_granted outlook) d w.request)
      by true e h = inl (e, h)
      by false e h = inr (e, h)

  waits_by : (o : Outlook) → outlook ≡ o → is_waiting o ≡ true → CanDecide x.server past w → ⊥
  waits_by HasToWait e q = outlook_waits past x z single p i e
  waits_by CanBeGranted e q = absurd (cc)
  waits_by (IsRefused t) e q = absurd (cc)

  waits_not : is_waiting outlook ≡ true → CanDecide x.server past w → ⊥
  waits_not e = waits_by outlook refl e

  -- where it can be granted it can't be that a pinned token is in its way
  granted_by : (o : Outlook) → outlook ≡ o → is_waiting o ≡ false → CanGrant x.server past w → is_granted o ≡ true
  granted_by HasToWait e q g = absurd (cc)
  granted_by CanBeGranted e q g = refl
  granted_by (IsRefused t) e q g = absurd (pinned (outlook_refuses past x z single p i t e))
    where
      was_granted : (acts : List Doing) (u : Token) → Pinned x.server acts u → Granted x.server acts u
      was_granted [] u h = h
      was_granted (a ∷ acts) u h = h.1

      pinned : CanRefuse x.server past w → ⊥
      pinned r = g.free r.pinned.0 (inl (was_granted past r.pinned.0 r.pinned.1)) r.pinned.2

  -- # A Fetch

  module _ (f : FetchOf) (is : w.request ≡ Asks f) where
    if_some : (b : Bool) (d : Sending) → Some d ≡ (if b then Some (Grant f) else None) → (b ≡ true) × (d ≡ Grant f)
    if_some true d e = (refl, (let q = e in cc))
    if_some false d e = absurd (cc)

    if_none : (b : Bool) → None ≡ (if b then Some (Grant f) else None) → b ≡ false
    if_none true e = absurd (cc)
    if_none false e = refl

    -- it is granted
    pub fetch_granted : (d : Sending) → IsSending x st p (Some d) → (d ≡ Grant f) × CanGrant x.server past w
        × (outlook ≡ CanBeGranted)
    fetch_granted d h = elim (parts (Some d) h) [
      | inl q ↦ absurd (let e = q.1 in cc)
      | inr q ↦
          (let r = if_some (is_granted outlook) d (subst (IsSendingOf x st p (is_granted outlook) (Some d)) is q.1) in
          (r.1, can r.0, granted_is outlook r.0))
    ]

    -- or can't be
    pub fetch_left : IsSending x st p None → CanGrant x.server past w → ⊥
    fetch_left h g = elim (parts None h) [
      | inl q ↦ waits_not q.0 (inl g)
      | inr q ↦ false≢true (sym (if_none (is_granted outlook)
          (subst (IsSendingOf x st p (is_granted outlook) None) is q.1))
          ∙ granted_by outlook refl q.0 g)
    ]

  -- # A Change

  module _ (c : ChangeOf) (is : w.request ≡ Changes c) where
    abbrev user : User
    user = (its_user past x st tree z s k p i c is).0

    abbrev found : Found
    found = found_on st user w.host c

    -- what becomes of it, by its kind
    data Becomes (d : Option Sending) : Type 0 where
      Enters : c.enter ≡ true → d ≡ (if is_granted outlook then entering_by c (entered_told st c.call) else None)
          → Becomes d
      Uses : c.enter ≡ false → is_use c.call ≡ true → IsUsing c w.needs (is_granted outlook) found d → Becomes d
      Other : c.enter ≡ false → is_use c.call ≡ false → d ≡ None → Becomes d

    becomes : (d : Option Sending) → IsSendingOf x st p (is_granted outlook) d w.request → Becomes d
    becomes d h = enter c.enter refl (subst (IsSendingOf x st p (is_granted outlook) d) is h)
      where
        enter : (b : Bool) → c.enter ≡ b → Whether b
            (d ≡ (if is_granted outlook then entering_by c (entered_told st c.call) else None))
            (Whether (is_use c.call) ((u : User) → user_of x.roster w.host ≡ Some u
            → IsUsing c w.needs (is_granted outlook) (found_on st u w.host c) d) (d ≡ None)) → Becomes d
        enter true e q = Enters e q
        enter false e q = label (is_use c.call) refl q
          where
            label : (b : Bool) → is_use c.call ≡ b → Whether b ((u : User) → user_of x.roster w.host ≡ Some u
                → IsUsing c w.needs (is_granted outlook) (found_on st u w.host c) d) (d ≡ None) → Becomes d
            label true u q = Uses e u (q user (its_user past x st tree z s k p i c is).1)
            label false u q = Other e u q

    -- why it is answered so
    pub data Reason (d : Sending) : Type 0 where
      IsUsed : d ≡ Use c.fileset c.number → is_use c.call ≡ true → NotRefused tree w.host c → IsOfRow tree w c
          → CanGrant x.server past w → outlook ≡ CanBeGranted → Reason d
      IsOther : d ≡ Say c.fileset c.number Again → is_use c.call ≡ true → NotRefused tree w.host c
          → (IsOfRow tree w c → ⊥) → CanDecide x.server past w → Reason d
      HasEntered : (id : FilesetId) → d ≡ Say c.fileset c.number (Known id) → c.enter ≡ true
          → entered_told st c.call ≡ Some id → CanGrant x.server past w → Reason d

    some_is : (a b : Sending) → Some a ≡ Some b → a ≡ b
    some_is a b e = cc

    pub why : (d : Sending) → IsSending x st p (Some d) → Reason d
    why d h = elim (parts (Some d) h) [
      | inl q ↦ absurd (let e = q.1 in cc)
      | inr q ↦ by q.0 (becomes (Some d) q.1)
    ]
      where
        entering : (b : Bool) → is_granted outlook ≡ b → (o : Option FilesetId) → entered_told st c.call ≡ o
            → c.enter ≡ true → Some d ≡ (if b then entering_by c o else None) → Reason d
        entering true g (Some id) e t q =
            HasEntered id (some_is d (Say c.fileset c.number (Known id)) q) t e (can g)
        entering true g None e t q = absurd (cc)
        entering false g o e t q = absurd (cc)

        using : is_waiting outlook ≡ false → is_use c.call ≡ true → (compared : Compared found.needs w.needs)
            → (o : Option Refusal) → found.refusal ≡ o → (r : Bool) → is_of_row c w.needs compared.same ≡ r
            → (g : Bool) → is_granted outlook ≡ g
            → Some d ≡ (if is_some o then None
            else (if not r then Some (Say c.fileset c.number Again)
            else (if g then Some (Use c.fileset c.number) else None))) → Reason d
        using ready u compared (Some f) e r re g ge q = absurd (cc)
        using ready u compared None e true re true ge q =
            IsUsed (some_is d (Use c.fileset c.number) q) u (not_refused past x st tree z s k p i c is e)
            (row_of tree w c found.needs (row past x st tree z s k p i c is) compared re) (can ge)
            (granted_is outlook ge)
        using ready u compared None e true re false ge q = absurd (cc)
        using ready u compared None e false re g ge q =
            IsOther (some_is d (Say c.fileset c.number Again) q) u (not_refused past x st tree z s k p i c is e)
            (not_row tree w c found.needs (row past x st tree z s k p i c is) compared re)
            (can_decide past x st tree z s k p i c is ready)

        by : is_waiting outlook ≡ false → Becomes (Some d) → Reason d
        by ready (Enters e q) = entering (is_granted outlook) refl (entered_told st c.call) refl e q
        by ready (Uses e u q) =
            using ready u q.0 found.refusal refl (is_of_row c w.needs q.0.same) refl (is_granted outlook) refl q.1
        by ready (Other e u q) = absurd (cc)

    -- # It isn't answered

    pub use_left : IsSending x st p None → is_use c.call ≡ true → c.enter ≡ false → NotRefused tree w.host c
        → CanGrant x.server past w → ⊥
    use_left h u n accepted g = elim (parts None h) [
      | inl q ↦ waits_not q.0 (inl g)
      | inr q ↦ by (granted_by outlook refl q.0 g) (becomes None q.1)
    ]
      where
        refused : (o : Option Refusal) → found.refusal ≡ o → is_some o ≡ true → ⊥
        refused (Some f) e t = accepted f (refused_on past x st tree z s k p i c is f e)
        refused None e t = cc

        using : (a r g : Bool) → g ≡ true
            → None ≡ (if a then None else (if not r then Some (Say c.fileset c.number Again)
            else (if g then Some (Use c.fileset c.number) else None))) → a ≡ true
        using true r g ge q = refl
        using false true true ge q = absurd (cc)
        using false true false ge q = absurd (cc)
        using false false g ge q = absurd (cc)

        by : is_granted outlook ≡ true → Becomes None → ⊥
        by ge (Enters e q) = false≢true (sym n ∙ e)
        by ge (Uses e v q) = refused found.refusal refl
            (using (is_some found.refusal) (is_of_row c w.needs q.0.same) (is_granted outlook) ge q.1)
        by ge (Other e v q) = false≢true (sym v ∙ u)

    pub other_left : IsSending x st p None → is_use c.call ≡ true → c.enter ≡ false → NotRefused tree w.host c
        → (IsOfRow tree w c → ⊥) → CanDecide x.server past w → ⊥
    other_left h u n accepted other g = elim (parts None h) [
      | inl q ↦ waits_not q.0 g
      | inr q ↦ by (becomes None q.1)
    ]
      where
        refused : (o : Option Refusal) → found.refusal ≡ o → is_some o ≡ true → ⊥
        refused (Some f) e t = accepted f (refused_on past x st tree z s k p i c is f e)
        refused None e t = cc

        using : (a r g : Bool) → r ≡ false
            → None ≡ (if a then None else (if not r then Some (Say c.fileset c.number Again)
            else (if g then Some (Use c.fileset c.number) else None))) → a ≡ true
        using true r g re q = refl
        using false true g re q = absurd (cc)
        using false false g re q = absurd (cc)

        by : Becomes None → ⊥
        by (Enters e q) = false≢true (sym n ∙ e)
        by (Other e v q) = false≢true (sym v ∙ u)
        by (Uses e v q) = elim (cases_Bool (is_of_row c w.needs q.0.same)) [
          | inl re ↦ other (row_of tree w c found.needs (row past x st tree z s k p i c is) q.0 re)
          | inr re ↦ refused found.refusal refl
              (using (is_some found.refusal) (is_of_row c w.needs q.0.same) (is_granted outlook) re q.1)
        ]

    pub enter_left : IsSending x st p None → c.enter ≡ true → NotRefused tree w.host c → CanGrant x.server past w → ⊥
    enter_left h t accepted g = elim (parts None h) [
      | inl q ↦ waits_not q.0 (inl g)
      | inr q ↦ by (granted_by outlook refl q.0 g) (becomes None q.1)
    ]
      where
        by_enter : (b : Bool) → b ≡ true → (o : Option FilesetId) → o ≡ None → (other : Option Refusal)
            → (if b then (if is_none o then Some NoFileset else None) else other) ≡ Some NoFileset
        by_enter true t None e other = refl
        by_enter true t (Some id) e other = absurd (cc)
        by_enter false t o e other = absurd (cc)

        missing : entered_told st c.call ≡ None → ⊥
        missing e = accepted NoFileset (refused_on past x st tree z s k p i c is NoFileset
            (by_enter c.enter t (entered_told st c.call) e (refusal_told st w.host user c.call)))

        entering : (b : Bool) → b ≡ true → (o : Option FilesetId) → entered_told st c.call ≡ o
            → None ≡ (if b then entering_by c o else None) → ⊥
        entering true ge (Some id) e q = cc
        entering true ge None e q = missing e
        entering false ge o e q = cc

        by : is_granted outlook ≡ true → Becomes None → ⊥
        by ge (Enters e q) = entering (is_granted outlook) ge (entered_told st c.call) refl q
        by ge (Uses e v q) = false≢true (sym e ∙ t)
        by ge (Other e v q) = false≢true (sym e ∙ t)
