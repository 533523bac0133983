-- Of a sound message that comes, sound tables stay such, and what is said at once is sound.
use Rattle.std.proofs.Common.{◌≡◌, ◌==◌, ◌&&◌, ◌/◌, Bool, true, false, List, [], ◌∷◌, Option, Some, None, ℕ}
use Rattle.std.proofs.Common.{if◌then◌else◌, eqb-true, inl, inr, refl, subst, sym}
use Rattle.std.specs.Option.{option_map_or}
use Rattle.base_types.specs.declared.ids.HostId.{HostId}
use Rattle.tree_calls.specs.declared.part.Status.{Status}
use Rattle.token_types.specs.declared.token.Need.{Need}
use Rattle.token_types.specs.declared.token.TokenId.{TokenId}
use Rattle.token_manager.specs.Managers.{Manager, after_kept, after_returned}
use Rattle.message_types.specs.Soundness.{Each, IsServer, IsSound}
use Rattle.message_types.specs.declared.asking.Change.{Change as ChangeOf}
use Rattle.message_types.specs.declared.giving.Give.{Give}
use Rattle.message_types.specs.declared.giving.Reclaim.{Reclaim as ReclaimOf}
use Rattle.message_types.specs.declared.giving.Reclaimed.{Reclaimed as ReclaimedOf}
use Rattle.message_types.specs.declared.message.Body.{Body}
use Rattle.message_types.specs.declared.message.Body.TheVariants.{
  Bye,
  Change,
  Done,
  Down,
  Fetch,
  GiveBack,
  Gone,
  Grant,
  Hello,
  Kept,
  NotHere,
  Reclaim,
  Reclaimed,
  Restarted,
  Returned,
  Revoke,
  Ship,
  Shipped,
}
use Rattle.message_types.specs.declared.message.Message.{Message}
use Rattle.message_types.specs.declared.telling.Done.{Done as DoneOf}
use Rattle.run_rules.specs.ServerDue.{empty_reclaimed}
use Rattle.run_rules.specs.Tokens.{number_of}
use Rattle.run_rules.specs.declared.applied.Applied.TheVariants.{IsDown}
use Rattle.run_rules.specs.declared.applied.Wanted.{Wanted}
use Rattle.server_tables.specs.Answers.{answer_again, is_old}
use Rattle.server_tables.specs.Claims.{answer_to, ups_of}
use Rattle.server_tables.specs.Greetings.{welcoming}
use Rattle.server_tables.specs.Listing.{has_host, is_live, stopping}
use Rattle.server_tables.specs.Places.{is_of}
use Rattle.server_tables.specs.Sound.{AreSaid, AreSound, CanBeAsked, CanHear, to_server}
use Rattle.server_tables.specs.Steps.{to_host}
use Rattle.server_tables.specs.Updates.{gone_away}
use Rattle.server_tables.specs.declared.recovering.Answered.{Answered}
use Rattle.server_tables.specs.declared.recovering.Claimed.{Claimed}
use Rattle.server_tables.specs.declared.recovering.Recovering.{Recovering}
use Rattle.server_tables.specs.declared.tables.LastGive.{LastGive}
use Rattle.server_tables.specs.declared.tables.Tables.{Tables}
use Rattle.server_tables.proofs.Eaches.{each_end}
use Rattle.server_tables.proofs.SoundAgain.{again_sound, told_sound}
use Rattle.server_tables.proofs.SoundTables.{GrantsOf, away_sound, bye_sound, enqueued_sound, grants_sound}
use Rattle.server_tables.proofs.SoundTables.{kept_so, restarted_sound, returned_so, said_end, welcome_sound}
use Rattle.server_tables.proofs.SoundTables.{welcoming_sound, word_sound}
use Rattle.server_takes.specs.Drafts.{applying, saying, word}
use Rattle.server_takes.specs.Messages.{IsFor, IsHeard}
use Rattle.server_takes.specs.Taking.{AreClaims, IsBodyTaken, IsMadeOf, IsOtherTaken, IsRequestTaken, IsTaken, Made}
use Rattle.server_takes.specs.Taking.{Whether, all_kept, all_returned, claim_draft, claim_of, comes_new, ending}
use Rattle.server_takes.specs.Taking.{ends_late, ends_now, freed, give_applied, hello_draft, is_decided_here, is_first}
use Rattle.server_takes.specs.Taking.{is_late, is_stored, keeping, made, noted, repeated, takes_change, takes_fetch}
use Rattle.server_takes.specs.Taking.{want_made}
use Rattle.server_takes.specs.declared.draft.Draft.{Draft}

whether : (b : Bool) (P Q R : Type 0) → Whether b P Q → (b ≡ true → P → R) → (b ≡ false → Q → R) → R
whether true P Q R h f g = f refl h
whether false P Q R h f g = g refl h

-- a condition that holds of both
either : {A : Type 0} (P : A → Type 0) (b : Bool) (p q : A) → (b ≡ true → P p) → (b ≡ false → P q)
    → P (if b then p else q)
either P true p q k l = k refl
either P false p q k l = l refl

-- a word more
pub said_word : (x : Tables) (d : Draft) (h : HostId) (b : Body) → AreSaid x.server x.roster d.sent
    → IsSound x.roster (word x h b) → AreSaid x.server x.roster (saying d (word x h b)).sent
said_word x d h b a s = said_end x.server x.roster h x.hosts.epoch d.sent a b s

module _ (x : Tables) (d : Draft) (s : AreSound x) where
  -- What is made of sound tables and a step in the making: they are the same server's, and sound, and what is said is
  -- sound.
  pub record GoesOn (y : Tables) (e : Draft) : Type 0 where
    pub server : y.server ≡ x.server
    pub roster : y.roster ≡ x.roster
    pub sound : AreSound y
    pub said : AreSaid x.server x.roster d.sent → AreSaid x.server x.roster e.sent

  abbrev GoesTo : Made → Type 0
  GoesTo both = GoesOn both.tables both.draft

  of_made : (y : Tables) (e : Draft) (both : Made) → IsMadeOf x d y e both → GoesTo both → GoesOn y e
  of_made y e both h g =
      subst (λ (z : Tables). GoesOn z e) (sym h.tables) (subst (GoesOn both.tables) (sym h.draft) g)

  stays : GoesOn x d
  stays = record { server = refl; roster = refl; sound = s; said = λ a. a }

  -- the tables stay, and this is said
  says_it : (h : HostId) (b : Body) → IsSound x.roster (word x h b) → GoesOn x (saying d (word x h b))
  says_it h b w = record { server = refl; roster = refl; sound = s; said = λ a. said_word x d h b a w }

  -- a request is wanted
  wants : (w : Wanted) → GoesTo (want_made x d w)
  wants w = record { server = refl; roster = refl; sound = enqueued_sound x s w; said = λ a. a }

  -- # Tokens that come back, or are kept

  back_of : (m : Manager) (h : HostId) (ids : List TokenId) → GrantsOf x m.grants
      → GrantsOf x (all_returned m h ids).grants
  back_of m h [] g = g
  back_of m h (id ∷ ids) g =
      back_of (after_returned m h id) h ids
      (returned_so (CanBeAsked x.server x.roster) x.hosts.epoch m h id g)

  stay_of : (m : Manager) (h : HostId) (ids : List TokenId) → GrantsOf x m.grants
      → GrantsOf x (all_kept m h ids).grants
  stay_of m h [] g = g
  stay_of m h (id ∷ ids) g =
      stay_of (after_kept m h id) h ids (kept_so (CanBeAsked x.server x.roster) x.hosts.epoch m h id g)

  -- a claim waits
  abbrev WasAsked : Claimed → Type 0
  WasAsked w = IsSound x.roster (to_server x.server w.host x.hosts.epoch (Reclaim w.claim))

  -- what claims wait and what was answered stays
  record StaysSo (r : Recovering) : Type 0 where
    pub claims : r.claims ≡ x.recovering.claims
    pub answers : r.answers ≡ x.recovering.answers

  with_tokens : (m : Manager) (gives : List LastGive) (r : Recovering) → GrantsOf x m.grants → StaysSo r
      → AreSound (record x { tokens = m; gives = gives; recovering = r })
  with_tokens m gives r g k = record {
    epoch = g.epoch;
    listed = s.listed;
    tokens = g.tokens;
    changes = s.changes;
    claims = subst (Each WasAsked) (sym k.claims) s.claims;
    answers = subst (λ answers. Each (λ (a : Answered).
        IsSound x.roster (to_host x.server a.host x.hosts.epoch 0 (Reclaimed a.answer))) answers) (sym k.answers)
        s.answers;
  }

  stays_if : (b : Bool) (r : Recovering) → StaysSo r → StaysSo (if b then x.recovering else r)
  stays_if true r k = record { claims = refl; answers = refl }
  stays_if false r k = k

  stays_two : (b : Bool) (r : Recovering) (host : HostId) (ids : List TokenId) → StaysSo r
      → StaysSo (if b then r else record r { given_up = ups_of r.given_up host ids })
  stays_two true r host ids k = k
  stays_two false r host ids k = record { claims = k.claims; answers = k.answers }

  freed_goes : (h : HostId) (ids : List TokenId) → GoesOn (freed x h ids) d
  freed_goes h ids = record {
    server = refl;
    roster = refl;
    sound = with_tokens (all_returned x.tokens h ids) x.gives (freed x h ids).recovering
        (back_of x.tokens h ids (grants_sound x s))
        (stays_two (has_host x.hosts.reclaimed h) x.recovering h ids (record { claims = refl; answers = refl }));
    said = λ a. a;
  }

  kept_goes : (h : HostId) (ids : List TokenId) → GoesOn (record x { tokens = all_kept x.tokens h ids }) d
  kept_goes h ids = record {
    server = refl;
    roster = refl;
    sound = with_tokens (all_kept x.tokens h ids) x.gives x.recovering (stay_of x.tokens h ids (grants_sound x s))
        (record { claims = refl; answers = refl });
    said = λ a. a;
  }

  -- # Give-backs

  module _ (host : HostId) (give : Give) (told : Option Status) where
    given_sound : AreSound (freed (noted x host give) host give.ids)
    given_sound = with_tokens (all_returned x.tokens host give.ids) (noted x host give).gives
        (freed (noted x host give) host give.ids).recovering (back_of x.tokens host give.ids (grants_sound x s))
        (stays_two (has_host x.hosts.reclaimed host) (noted x host give).recovering host give.ids
        (stays_if (has_host x.hosts.reclaimed host) _ (record { claims = refl; answers = refl })))

    applied_sent : (give_applied x d host give told).sent ≡ d.sent
    applied_sent = either (λ (e : Draft). e.sent ≡ d.sent) (is_first x host give)
        (ending (keeping d host give (is_stored x host give told)) host give) d
        (λ f. either (λ (e : Draft). e.sent ≡ d.sent) (is_stored x host give told) _ d (λ z. refl) (λ z. refl))
        (λ f. refl)

    gone_sound : CanHear x.server x.roster host → is_of x.server give.fid.fileset ≡ true
        → IsSound x.roster (word x host (Gone (number_of give)))
    gone_sound c q = word_sound x.server x.roster host x.hosts.epoch c (Gone (number_of give)) refl tt
        (λ z. eqb-true (give.fid.fileset.0 / 65536) x.server.0 q)

    give_goes : CanHear x.server x.roster host → (b : Bool) → is_of x.server give.fid.fileset ≡ b
        → GoesOn (if b then freed (noted x host give) host give.ids else x)
        (if b then saying (give_applied x d host give told) (word x host (Gone (number_of give))) else d)
    give_goes c true q = record {
      server = refl;
      roster = refl;
      sound = given_sound;
      said = λ a. said_word x (give_applied x d host give told) host (Gone (number_of give))
          (subst (AreSaid x.server x.roster) (sym applied_sent) a) (gone_sound c q);
    }
    give_goes c false q = stays

  -- # What is answered again

  repeated_goes : (host : HostId) (change : ChangeOf) (o : Option DoneOf) → answer_again x host change ≡ o
      → GoesOn x (repeated x d host o)
  repeated_goes host change None q = stays
  repeated_goes host change (Some done) q = says_it host (Done done) (again_sound x s host change done q)

  told_goes : (host : HostId) (o : Option ReclaimedOf) → answer_to x.recovering.answers host ≡ o
      → GoesOn x (option_map_or (λ answer. saying d (word x host (Reclaimed answer))) o d)
  told_goes host None q = stays
  told_goes host (Some answer) q = says_it host (Reclaimed answer) (told_sound x s host answer q)

  claim_goes : (host : HostId) → GoesOn x (claim_draft x d host)
  claim_goes host = either (GoesOn x) (has_host x.hosts.reclaimed host) _ d
      (λ z. told_goes host (answer_to x.recovering.answers host) refl) (λ z. stays)

  claimed_goes : (host : HostId) (claim : ReclaimOf) (claims : List Claimed) (e : Draft) → GoesOn x e
      → IsSound x.roster (to_server x.server host x.hosts.epoch (Reclaim claim))
      → AreClaims host claim x.recovering.claims claims
      → GoesOn (record x { recovering = record x.recovering { claims = claims } }) e
  claimed_goes host claim claims e g c a = record {
    server = refl;
    roster = refl;
    sound = record {
      epoch = s.epoch;
      listed = s.listed;
      tokens = s.tokens;
      changes = s.changes;
      claims = elim a [
        | inl p ↦ subst (Each WasAsked) (sym p.1) s.claims
        | inr p ↦ subst (Each WasAsked) (sym p)
            (each_end WasAsked x.recovering.claims (claim_of host claim) s.claims c)
      ];
      answers = s.answers;
    };
    said = g.said;
  }

  -- # Greetings

  module _ (host : HostId) (c : CanHear x.server x.roster host) where
    restarted_goes : GoesOn x (saying d (word x host Restarted))
    restarted_goes = says_it host Restarted (restarted_sound x.server x.roster host x.hosts.epoch c)

    hello_says : GoesOn x (hello_draft x d host)
    hello_says = says_it host _ (either (λ (b : Body). IsSound x.roster (word x host b)) (is_late x host) Restarted
        (Reclaimed empty_reclaimed) (λ z. restarted_sound x.server x.roster host x.hosts.epoch c)
        (λ z. welcome_sound x.server x.roster host x.hosts.epoch c))

    bye_says : (epoch : ℕ) → GoesOn x (saying d (word x host (if ends_late x host epoch then Restarted else Bye)))
    bye_says epoch = says_it host _ (either (λ (b : Body). IsSound x.roster (word x host b)) (ends_late x host epoch)
        Restarted Bye (λ z. restarted_sound x.server x.roster host x.hosts.epoch c)
        (λ z. bye_sound x.server x.roster host x.hosts.epoch c))

    hello_goes : (b : Bool) → GoesOn (if b then welcoming x host else x) (hello_draft x d host)
    hello_goes true =
        record { server = refl; roster = refl; sound = welcoming_sound x s host c; said = hello_says.said }
    hello_goes false = hello_says

    bye_goes : (epoch : ℕ) (b : Bool) → GoesOn (if b then gone_away x host else x)
        (saying d (word x host (if ends_late x host epoch then Restarted else Bye)))
    bye_goes epoch true =
        record { server = refl; roster = refl; sound = away_sound x s host; said = (bye_says epoch).said }
    bye_goes epoch false = bye_says epoch

  stopping_sound : (h : HostId) → AreSound (record x { hosts = stopping x.hosts h })
  stopping_sound h = record {
    epoch = s.epoch;
    listed = s.listed;
    tokens = s.tokens;
    changes = s.changes;
    claims = s.claims;
    answers = s.answers;
  }

  down_goes : (h : HostId) → GoesOn (gone_away (record x { hosts = stopping x.hosts h }) h)
      (applying d (IsDown h))
  down_goes h = record {
    server = refl;
    roster = refl;
    sound = away_sound (record x { hosts = stopping x.hosts h }) (stopping_sound h) h;
    said = λ a. a;
  }

-- # Any message

module _ (x : Tables) (d : Draft) (s : AreSound x) (m : Message) (is : IsFor x.server x.roster m) (needs : List Need)
    (told : Option Status) (y : Tables) (e : Draft) where
  abbrev Goes : Type 0
  Goes = GoesOn x d s y e

  hears : CanHear x.server x.roster m.host
  hears = record { declared = is.sound.host; own = subst (IsServer x.roster) is.own is.sound.server }

  -- one of this epoch, about a fileset that has never moved
  asked_so : (m.epoch == x.hosts.epoch) ≡ true → (m.moves == 0) ≡ true
      → IsSound x.roster (to_server x.server m.host x.hosts.epoch m.body)
  asked_so p q =
      let now : m.epoch ≡ x.hosts.epoch = eqb-true m.epoch x.hosts.epoch p in
      let still : m.moves ≡ 0 = eqb-true m.moves 0 q in
      subst (IsSound x.roster) (λ i. record {
        direction = is.way i;
        host = m.host;
        server = is.own i;
        epoch = now i;
        moves = still i;
        body = m.body;
      }) is.sound

  same : IsMadeOf x d y e (made x d) → Goes
  same h = of_made x d s y e _ h (stays x d s)

  module _ (now : (m.epoch == x.hosts.epoch) ≡ true) (still : (m.moves == 0) ≡ true) where
    by_request : (b : Body) → m.body ≡ b → IsRequestTaken x d m.host needs told y e b → Goes
    by_request (Fetch fetch) q h = of_made x d s y e _ h
        (either (GoesTo x d s) (takes_fetch x m.host fetch) _ _ (λ z. wants x d s _) (λ z. stays x d s))
    by_request (Change change) q h = of_made x d s y e _ h
        (either (GoesTo x d s) (is_decided_here x change && is_old x m.host change) _ _
        (λ z. repeated_goes x d s m.host change (answer_again x m.host change) refl)
        (λ z. either (GoesTo x d s) (takes_change x m.host change) _ _ (λ w. wants x d s _) (λ w. stays x d s)))
    by_request (Returned named) q h = of_made x d s y e _ h
        (either (λ (z : Tables). GoesOn x d s z d) (is_of x.server named.fid.fileset) _ x
        (λ z. freed_goes x d s m.host named.ids) (λ z. stays x d s))
    by_request (Kept named) q h = of_made x d s y e _ h (kept_goes x d s m.host named.ids)
    by_request (GiveBack give) q h = of_made x d s y e _ h
        (give_goes x d s m.host give told hears (is_of x.server give.fid.fileset) refl)
    by_request (Reclaim claim) q h = by (has_host x.hosts.reclaimed m.host) refl
      where
        its : GoesOn x d s x e
        its = subst (GoesOn x d s x) (sym h.1) (claim_goes x d s m.host)

        by : (b : Bool) → has_host x.hosts.reclaimed m.host ≡ b → Goes
        by true r = subst (λ (z : Tables). GoesOn x d s z e) (sym (h.0.reclaimed r)) its
        by false r = subst (λ (z : Tables). GoesOn x d s z e) (sym (h.0.after r).0)
            (claimed_goes x d s m.host claim y.recovering.claims e its
            (subst (λ (b : Body). IsSound x.roster (to_server x.server m.host x.hosts.epoch b)) q
            (asked_so now still)) (h.0.after r).1)
    by_request Hello q h = same h
    by_request (Grant grant) q h = same h
    by_request (Done done) q h = same h
    by_request (Revoke revoke) q h = same h
    by_request (Gone gone) q h = same h
    by_request (Reclaimed answer) q h = same h
    by_request Restarted q h = same h
    by_request Down q h = same h
    by_request Bye q h = same h
    by_request (NotHere n) q h = same h
    by_request (Ship v) q h = same h
    by_request (Shipped v) q h = same h

  by_other : IsOtherTaken x d m needs told y e → Goes
  by_other h = whether (is_live x.hosts m.host) _ _ Goes h
      (λ w l. whether (m.epoch == x.hosts.epoch) _ _ Goes l
      (λ now n. whether (m.moves == 0) _ _ Goes n (λ still t. by_request now still m.body refl t)
      (λ z k. same k))
      (λ z k. of_made x d s y e _ k (restarted_goes x d s m.host hears)))
      (λ z k. same k)

  by_body : (b : Body) → IsBodyTaken x d m needs told y e b → Goes
  by_body Hello h = of_made x d s y e _ h (hello_goes x d s m.host hears (comes_new x m.host))
  by_body Bye h = of_made x d s y e _ h (bye_goes x d s m.host hears m.epoch (ends_now x m.host m.epoch))
  by_body Down h = of_made x d s y e _ h (down_goes x d s m.host)
  by_body (Fetch fetch) h = by_other h
  by_body (Change change) h = by_other h
  by_body (Returned named) h = by_other h
  by_body (Kept named) h = by_other h
  by_body (GiveBack give) h = by_other h
  by_body (Reclaim claim) h = by_other h
  by_body (Grant grant) h = by_other h
  by_body (Done done) h = by_other h
  by_body (Revoke revoke) h = by_other h
  by_body (Gone gone) h = by_other h
  by_body (Reclaimed answer) h = by_other h
  by_body Restarted h = by_other h
  by_body (NotHere n) h = by_other h
  by_body (Ship v) h = by_other h
  by_body (Shipped v) h = by_other h

  pub taken_goes : IsTaken x d m needs told y e → Goes
  taken_goes h = whether (has_host x.hosts.down m.host) _ _ Goes h (λ z k. same k) (λ z k. by_body m.body k)

-- whatever the store tells
pub heard_goes : (x : Tables) (d : Draft) (s : AreSound x) (m : Message) → IsFor x.server x.roster m → (y : Tables)
    (e : Draft) → IsHeard x d m y e → GoesOn x d s y e
heard_goes x d s m is y e h = taken_goes x d s m is h.needs h.told y e h.taken
