-- What is taken of a message, case by case.
use Rattle.std.proofs.Common.{◌≡◌, ◌∙◌, true, false, refl, sym, ap, subst}
use Rattle.std.specs.Prelude.{◌==◌, ◌&&◌, not, if◌then◌else◌, Bool, List, [], Option, None, Result, Ok, Err, OnOk}
use Rattle.std.proofs.lemmas.Bool.{and_parts, ne_eqb}
use Rattle.base_types.specs.declared.user.User.{User}
use Rattle.tree_calls.specs.declared.part.Status.{Status}
use Rattle.token_types.specs.declared.token.Need.{Need}
use Rattle.tree_calls.specs.declared.roster.Roster.{Roster}
use Rattle.message_types.specs.Soundness.{IsBody, IsCall, IsChange, IsGiveBack, IsHost}
use Rattle.message_types.specs.declared.asking.Change.{Change as ChangeOf}
use Rattle.message_types.specs.declared.asking.Fetch.{Fetch as FetchOf}
use Rattle.message_types.specs.declared.giving.Give.{Give}
use Rattle.message_types.specs.declared.giving.Reclaim.{Reclaim as ReclaimOf}
use Rattle.message_types.specs.declared.message.Body.{Body}
use Rattle.message_types.specs.declared.message.Body.TheVariants.{Bye, Change, Down, Fetch, GiveBack, Hello, Kept}
use Rattle.message_types.specs.declared.message.Body.TheVariants.{Reclaim, Restarted, Returned}
use Rattle.message_types.specs.declared.message.Message.{Message}
use Rattle.message_types.specs.declared.tokens.Named.{Named}
use Rattle.store_acts.specs.Sound.{IsAct}
use Rattle.store_state.specs.declared.state.StoreState.{StoreState}
use Rattle.server_looks.specs.Acts.{giving}
use Rattle.base_types.specs.declared.ids.HostId.{HostId}
use Rattle.server_tables.specs.Listing.{has_host, is_live}
use Rattle.server_tables.specs.declared.tables.Tables.{Tables}
use Rattle.server_takes.specs.Drafts.{saying, word}
use Rattle.server_takes.specs.Messages.{IsFor, IsStoreOf, asks_store, body_state, is_request, needs_by, other_state}
use Rattle.server_takes.specs.Messages.{request_state}
use Rattle.server_takes.specs.Messages.{state_taken, told_by}
use Rattle.server_takes.specs.Taking.{IsBodyTaken, IsOtherTaken, IsRequestTaken, IsTaken, Whether}
use Rattle.server_takes.specs.declared.draft.Draft.{Draft}

pub on_both : {T E : Type 0} (r : Result T E) (P Q R : Type 0) → (P → Q → R) → OnOk r P → OnOk r Q → OnOk r R
on_both (Ok value) P Q R f p q = f p q
on_both (Err error) P Q R f p q = tt

pub on_ok_is : {T E : Type 0} (r : Result T E) (P : Type 0) → P → OnOk r P
on_ok_is (Ok value) P p = p
on_ok_is (Err error) P p = tt

whether_yes : (b : Bool) (P Q : Type 0) → b ≡ true → P → Whether b P Q
whether_yes true P Q e p = p
whether_yes false P Q e p = absurd (cc)

whether_no : (b : Bool) (P Q : Type 0) → b ≡ false → Q → Whether b P Q
whether_no true P Q e q = absurd (cc)
whether_no false P Q e q = q

module _ (x : Tables) (d : Draft) (m : Message) (needs : List Need) (told : Option Status) (y : Tables)
    (e : Draft) where
  -- a host that has stopped
  pub taken_down : has_host x.hosts.down m.host ≡ true → y ≡ x → e ≡ d → IsTaken x d m needs told y e
  taken_down b p q = whether_yes (has_host x.hosts.down m.host) _ _ b (record { tables = p; draft = q })

  pub taken_up : has_host x.hosts.down m.host ≡ false → IsBodyTaken x d m needs told y e m.body
      → IsTaken x d m needs told y e
  taken_up b t = whether_no (has_host x.hosts.down m.host) _ _ b t

  -- no greeting and no farewell
  pub other_taken : (body : Body) → (body ≡ Down → ⊥) → (body ≡ Hello → ⊥) → (body ≡ Bye → ⊥)
      → IsOtherTaken x d m needs told y e
      → IsBodyTaken x d m needs told y e body
  other_taken Down a b c t = absurd (a refl)
  other_taken Hello a b c t = absurd (b refl)
  other_taken Bye a b c t = absurd (c refl)
  other_taken _ a b c t = t

  pub taken_away : is_live x.hosts m.host ≡ false → y ≡ x → e ≡ d → IsOtherTaken x d m needs told y e
  taken_away b p q = whether_no (is_live x.hosts m.host) _ _ b (record { tables = p; draft = q })

  pub taken_old : is_live x.hosts m.host ≡ true → (m.epoch ≡ x.hosts.epoch → ⊥) → y ≡ x → e ≡ saying d
      (word x m.host Restarted)
      → IsOtherTaken x d m needs told y e
  taken_old b n p q =
      whether_yes (is_live x.hosts m.host) _ _ b
      (whether_no (m.epoch == x.hosts.epoch) _ _ (ne_eqb m.epoch x.hosts.epoch n) (record { tables = p; draft = q }))

  pub taken_moved : is_live x.hosts m.host ≡ true → (m.epoch == x.hosts.epoch) ≡ true → (m.moves ≡ 0 → ⊥) → y ≡ x → e
      ≡ d
      → IsOtherTaken x d m needs told y e
  taken_moved b n o p q =
      whether_yes (is_live x.hosts m.host) _ _ b
      (whether_yes (m.epoch == x.hosts.epoch) _ _ n
      (whether_no (m.moves == 0) _ _ (ne_eqb m.moves 0 o) (record { tables = p; draft = q })))

  pub taken_now : is_live x.hosts m.host ≡ true → (m.epoch == x.hosts.epoch) ≡ true → (m.moves == 0) ≡ true
      → IsRequestTaken x d m.host needs told y e m.body → IsOtherTaken x d m needs told y e
  taken_now b n o t =
      whether_yes (is_live x.hosts m.host) _ _ b
      (whether_yes (m.epoch == x.hosts.epoch) _ _ n (whether_yes (m.moves == 0) _ _ o t))

-- a body that asks nothing of the store, and isn't one of these
pub alone_taken : (x : Tables) (d : Draft) (host : HostId) (y : Tables) (e : Draft) (body : Body) → asks_store body
    ≡ false
    → ((f : FetchOf) → body ≡ Fetch f → ⊥) → ((n : Named) → body ≡ Returned n → ⊥) → ((n : Named) → body ≡ Kept n → ⊥)
    → ((c : ReclaimOf) → body ≡ Reclaim c → ⊥) → y ≡ x → e ≡ d → IsRequestTaken x d host [] None y e body
alone_taken x d host y e (Fetch f) s a b c g p q = absurd (a f refl)
alone_taken x d host y e (Returned n) s a b c g p q = absurd (b n refl)
alone_taken x d host y e (Kept n) s a b c g p q = absurd (c n refl)
alone_taken x d host y e (Reclaim n) s a b c g p q = absurd (g n refl)
alone_taken x d host y e (Change n) s a b c g p q = absurd (cc)
alone_taken x d host y e (GiveBack n) s a b c g p q = absurd (cc)
alone_taken x d host y e _ s a b c g p q = record { tables = p; draft = q }

pub asks_none : (body : Body) → ((c : ChangeOf) → body ≡ Change c → ⊥) → ((g : Give) → body ≡ GiveBack g → ⊥)
    → asks_store body ≡ false
asks_none (Change n) a b = absurd (a n refl)
asks_none (GiveBack n) a b = absurd (b n refl)
asks_none _ a b = refl

-- then no needs are read and no status
pub needs_none : (state : StoreState) (m : Message) (user : User) (body : Body) → asks_store body ≡ false → []
    ≡ needs_by state m user body
needs_none state m user (Change n) s = absurd (cc)
needs_none state m user _ s = refl

pub told_none : (state : StoreState) (body : Body) → asks_store body ≡ false → None ≡ told_by state body
told_none state (GiveBack n) s = absurd (cc)
told_none state _ s = refl

pub alone_read : (x : Tables) (d : Draft) (m : Message) (user : User) (state : StoreState) (y : Tables) (e : Draft)
    (body : Body) → asks_store body ≡ false
    → IsRequestTaken x d m.host [] None y e body → IsRequestTaken x d m.host (needs_by state m user body)
    (told_by state body) y e body
alone_read x d m user state y e body s t =
    subst (λ (n : List Need). IsRequestTaken x d m.host n (told_by state body) y e body)
    (needs_none state m user body s)
    (subst (λ (o : Option Status). IsRequestTaken x d m.host [] o y e body) (told_none state body s) t)

-- # What a sound message has

pub host_known : (x : Tables) (m : Message) (state : StoreState) → IsFor x.server x.roster m → IsStoreOf x state
    → IsHost state.roster m.host
host_known x m state f o = subst (λ (r : Roster). IsHost r m.host) (sym o.roster) f.sound.host

pub call_known : (x : Tables) (m : Message) (state : StoreState) (change : ChangeOf) → m.body ≡ Change change
    → IsFor x.server x.roster m → IsStoreOf x state
    → IsCall state.roster change.call
call_known x m state change e f o =
    let b : IsChange x.roster m change = subst (λ (v : Body). IsBody x.roster m v) e f.sound.body in
    subst (λ (r : Roster). IsCall r change.call) (sym o.roster) b.call

pub give_known : (x : Tables) (m : Message) (state : StoreState) (give : Give) → m.body ≡ GiveBack give
    → IsFor x.server x.roster m → IsStoreOf x state
    → IsAct state.roster state.server (giving m.host give)
give_known x m state give e f o =
    let b : IsGiveBack x.roster m give = subst (λ (v : Body). IsBody x.roster m v) e f.sound.body in
    (host_known x m state f o, b.bytes.ends, b.size)

-- # The store

pub request_stays : (x : Tables) (m : Message) (state : StoreState) (body : Body) → ((g : Give) → body ≡ GiveBack g → ⊥)
    → state ≡ request_state x m state body
request_stays x m state (GiveBack g) a = absurd (a g refl)
request_stays x m state _ a = refl

pub body_other : (x : Tables) (m : Message) (state : StoreState) (body : Body) → (body ≡ Down → ⊥) → (body ≡ Hello → ⊥)
    → (body ≡ Bye → ⊥)
    → other_state x m state body ≡ body_state x m state body
body_other x m state Down a b c = absurd (a refl)
body_other x m state Hello a b c = absurd (b refl)
body_other x m state Bye a b c = absurd (c refl)
body_other x m state _ a b c = refl

pub state_down : (x : Tables) (m : Message) (state : StoreState) → has_host x.hosts.down m.host ≡ true → state
    ≡ state_taken x m state
state_down x m state b = ap (λ (v : Bool). if v then state else body_state x m state m.body) (sym b)

pub state_up : (x : Tables) (m : Message) (state : StoreState) → has_host x.hosts.down m.host ≡ false
    → body_state x m state m.body ≡ state_taken x m state
state_up x m state b = ap (λ (v : Bool). if v then state else body_state x m state m.body) (sym b)

abbrev state_if : Tables → Message → StoreState → Body → Bool → Bool → Bool → StoreState
state_if x m state body a b c = if a && (b && c) then request_state x m state body else state

pub state_away : (x : Tables) (m : Message) (state : StoreState) (body : Body) → is_live x.hosts m.host ≡ false → state
    ≡ other_state x m state body
state_away x m state body b = ap (λ (v : Bool). state_if x m state body v (m.epoch == x.hosts.epoch) (m.moves == 0))
    (sym b)

pub state_old : (x : Tables) (m : Message) (state : StoreState) (body : Body) → is_live x.hosts m.host ≡ true →
    (m.epoch ≡ x.hosts.epoch → ⊥)
    → state ≡ other_state x m state body
state_old x m state body b n =
    ap (λ (v : Bool). state_if x m state body true v (m.moves == 0)) (sym (ne_eqb m.epoch x.hosts.epoch n))
    ∙ ap (λ (v : Bool). state_if x m state body v (m.epoch == x.hosts.epoch) (m.moves == 0)) (sym b)

pub state_moved : (x : Tables) (m : Message) (state : StoreState) (body : Body) → is_live x.hosts m.host ≡ true →
    (m.epoch == x.hosts.epoch) ≡ true
    → (m.moves ≡ 0 → ⊥) → state ≡ other_state x m state body
state_moved x m state body b n o =
    ap (λ (v : Bool). state_if x m state body true true v) (sym (ne_eqb m.moves 0 o))
    ∙ ap (λ (v : Bool). state_if x m state body true v (m.moves == 0)) (sym n)
    ∙ ap (λ (v : Bool). state_if x m state body v (m.epoch == x.hosts.epoch) (m.moves == 0)) (sym b)

pub state_now : (x : Tables) (m : Message) (state : StoreState) (body : Body) → is_live x.hosts m.host ≡ true →
    (m.epoch == x.hosts.epoch) ≡ true
    → (m.moves == 0) ≡ true → request_state x m state body ≡ other_state x m state body
state_now x m state body b n o =
    ap (λ (v : Bool). state_if x m state body true true v) (sym o)
    ∙ ap (λ (v : Bool). state_if x m state body true v (m.moves == 0)) (sym n)
    ∙ ap (λ (v : Bool). state_if x m state body v (m.epoch == x.hosts.epoch) (m.moves == 0)) (sym b)

-- # A give-back that counts as a request

not_false : (b : Bool) → not b ≡ true → b ≡ false
not_false true e = absurd (cc)
not_false false e = refl

record Counts (x : Tables) (m : Message) : Type 0 where
  pub up : has_host x.hosts.down m.host ≡ false
  pub live : is_live x.hosts m.host ≡ true
  pub now : (m.epoch == x.hosts.epoch) ≡ true
  pub still : (m.moves == 0) ≡ true

counts_so : (x : Tables) (m : Message) → is_request x m ≡ true → Counts x m
counts_so x m e =
    let p = and_parts (not (has_host x.hosts.down m.host)) _ e in
    let q = and_parts (is_live x.hosts m.host) _ p.1 in
    let r = and_parts (m.epoch == x.hosts.epoch) (m.moves == 0) q.1 in
    record { up = not_false (has_host x.hosts.down m.host) p.0; live = q.0; now = r.0; still = r.1 }

pub given_request : (x : Tables) (d : Draft) (m : Message) (needs : List Need) (told : Option Status) (y : Tables)
    (e : Draft) (give : Give) → m.body ≡ GiveBack give → is_request x m ≡ true
    → IsRequestTaken x d m.host needs told y e m.body → IsTaken x d m needs told y e
given_request x d m needs told y e give is counts t =
    let k = counts_so x m counts in
    taken_up x d m needs told y e k.up
    (other_taken x d m needs told y e m.body (λ b. clash_down (sym is ∙ b)) (λ b. clash_hello (sym is ∙ b))
    (λ b. clash_bye (sym is ∙ b)) (taken_now x d m needs told y e k.live k.now k.still t))
  where
    clash_down : GiveBack give ≡ Down → ⊥
    clash_down b = absurd (cc)

    clash_hello : GiveBack give ≡ Hello → ⊥
    clash_hello b = absurd (cc)

    clash_bye : GiveBack give ≡ Bye → ⊥
    clash_bye b = absurd (cc)

pub request_given : (x : Tables) (m : Message) (state : StoreState) (give : Give) → m.body ≡ GiveBack give
    → is_request x m ≡ true → request_state x m state m.body ≡ state_taken x m state
request_given x m state give is counts =
    let k = counts_so x m counts in
    state_now x m state m.body k.live k.now k.still
    ∙ body_other x m state m.body (λ b. clash_down (sym is ∙ b)) (λ b. clash_hello (sym is ∙ b))
    (λ b. clash_bye (sym is ∙ b))
    ∙ state_up x m state k.up
  where
    clash_down : GiveBack give ≡ Down → ⊥
    clash_down b = absurd (cc)

    clash_hello : GiveBack give ≡ Hello → ⊥
    clash_hello b = absurd (cc)

    clash_bye : GiveBack give ≡ Bye → ⊥
    clash_bye b = absurd (cc)
