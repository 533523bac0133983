-- What a host sends is sound, where its tables are tidy.
use Rattle.base_types.specs.declared.ids.Fid.{Fid}
use Rattle.base_types.specs.declared.ids.FilesetId.{FilesetId}
use Rattle.base_types.specs.declared.ids.HostId.{HostId}
use Rattle.base_types.specs.declared.ids.ServerId.{ServerId}
use Rattle.host_cache.specs.Holding.{tokens_of}
use Rattle.host_cache.specs.Seen.{file_at, tells}
use Rattle.host_cache.specs.declared.held.Held.{Held}
use Rattle.host_tables.proofs.Lists.{map_in, none_in}
use Rattle.host_tables.specs.LeavingSteps.{Left, with_left}
use Rattle.host_tables.specs.LeavingWhole.{SaysLeft}
use Rattle.host_tables.specs.LeavingWhole.SaysLeft.{OfGiven, OfReturned}
use Rattle.host_tables.specs.Quiet.{Moved}
use Rattle.host_tables.specs.RevokeSteps.{SaysRevoked}
use Rattle.host_tables.specs.RevokeSteps.SaysRevoked.{BackGiven, BackKept, BackReturned}
use Rattle.host_tables.specs.Saying.{ClaimFrom, SaysAgain}
use Rattle.host_tables.specs.Saying.SaysAgain.{OfBye, OfChange, OfClaim, OfFetch, OfGive, OfHello}
use Rattle.host_tables.specs.Tables.{content, held_of}
use Rattle.host_tables.specs.Tidy.{AgainSound, ChangeSound, DoneTidy, FetchSound, GrantTidy}
use Rattle.host_tables.specs.Tidy.{IsOutgoing, IsTidy, IsTidyChange, IsTidyFetch, IsTidyGive, IsTidyToken, LeftSound}
use Rattle.host_tables.specs.Tidy.{RevokedSound, TidyFirst, TidyStays}
use Rattle.host_tables.specs.declared.tables.Tables.{Tables}
use Rattle.message_types.specs.Soundness.{AreNamed, Brings, Each, Goes, HasMoves, HasRoom, IsBody, IsBrought}
use Rattle.message_types.specs.Soundness.{IsChange, IsClaim, IsDone, IsFetch, IsFetched, IsGiveBack, IsGrant, IsHost}
use Rattle.message_types.specs.Soundness.{IsRevoke, IsServer, IsSound, IsToken, Numbers}
use Rattle.message_types.specs.declared.asking.Change.{Change as ChangeOf}
use Rattle.message_types.specs.declared.asking.Fetch.{Fetch as FetchOf}
use Rattle.message_types.specs.declared.giving.Give.{Give}
use Rattle.message_types.specs.declared.giving.Outstanding.{Outstanding}
use Rattle.message_types.specs.declared.giving.Reclaim.{Reclaim as ReclaimOf}
use Rattle.message_types.specs.declared.message.Body.{Body}
use Rattle.message_types.specs.declared.message.Body.TheVariants.{Bye, Change, Fetch, GiveBack, Hello}
use Rattle.message_types.specs.declared.message.Body.TheVariants.{Kept as KeptBody, Reclaim, Returned}
use Rattle.message_types.specs.declared.message.Direction.TheVariants.{ToServer}
use Rattle.message_types.specs.declared.message.Message.{Message}
use Rattle.message_types.specs.declared.telling.Bring.{Bring}
use Rattle.message_types.specs.declared.tokens.Named.{Named}
use Rattle.message_types.specs.declared.tokens.Revoke.{Revoke as RevokeOf}
use Rattle.run_rules.specs.Messages.{home}
use Rattle.run_rules.specs.Past.{In}
use Rattle.run_rules.specs.declared.step.Step.{Step}
use Rattle.std.proofs.Common.{List, None, [], ap, arith, if◌then◌else◌, inl, inr, refl, subst, sym, ℕ, ◌/◌, ◌<◌, ◌∙◌}
use Rattle.std.proofs.Common.{◌∷◌, ◌≡◌, ◌≤◌, ◌⊎◌}
use Rattle.std.specs.Option.{option_map_or}
use Rattle.token_types.specs.declared.token.Need.{Need}
use Rattle.token_types.specs.declared.token.Token.{Token}
use Rattle.token_types.specs.declared.token.TokenId.{TokenId}
use Rattle.tree_calls.specs.declared.part.Status.{Status as StatusOf}
use Rattle.tree_calls.specs.declared.roster.Roster.{Roster}
use Rattle.tree_laws.specs.Parts.Part.{Size}

each_of : {A : Type 0} (P : A → Type 0) (xs : List A) → ((x : A) → In x xs → P x) → Each P xs
each_of P [] all = tt
each_of P (x ∷ xs) all = (all x (inl refl), each_of P xs (λ y i. all y (inr i)))

of_each : {A : Type 0} (P : A → Type 0) (xs : List A) → Each P xs → (x : A) → In x xs → P x
of_each P [] all x i = elim i [ ]
of_each P (y ∷ ys) all x (inl e) = subst P (sym e) all.0
of_each P (y ∷ ys) all x (inr i) = of_each P ys all.1 x i

-- the home of a fileset, by its number
pub home_number : (fs : FilesetId) → fs.0 / 65536 ≡ (home fs).0
unfolding home
home_number fs = refl

at_home : (fs : FilesetId) (v : ServerId) → home fs ≡ v → fs.0 / 65536 ≡ v.0
at_home fs v e = home_number fs ∙ ap (λ (w : ServerId). w.0) e

-- the fileset of a token of a claim is among its numbers
in_numbers : (o : Outstanding) (numbers : List Outstanding) (fs : FilesetId) → In o numbers → o.fileset ≡ fs
    → Numbers numbers fs
in_numbers o [] fs i e = elim i [ ]
in_numbers o (k ∷ numbers) fs (inl q) e = inl (ap (λ (z : Outstanding). z.fileset) (sym q) ∙ e)
in_numbers o (k ∷ numbers) fs (inr i) e = inr (in_numbers o numbers fs i e)

module _ (roster : Roster) (m : Tables) (y : Message) (tidy : IsTidy roster m) (out : IsOutgoing m y) where
  -- a sound message, from what its body says
  sound_by : IsServer roster y.server → Goes y.body ToServer → HasMoves y.body 0 → IsBody roster y y.body
      → IsSound roster y
  sound_by declared goes moves body = record {
    host = subst (IsHost roster) (sym out.host_is) tidy.host;
    server = declared;
    way = subst (Goes y.body) (sym out.way) goes;
    apart = λ e. absurd (let p = sym out.way ∙ e in cc);
    moves = subst (HasMoves y.body) (sym out.no_moves) moves;
    body = body;
  }

  give_body : (g : Give) → IsTidyGive roster g → home g.fid.fileset ≡ y.server → IsGiveBack roster y g
  give_body g t at = record {
    number = t.from;
    home = λ e. at_home g.fid.fileset y.server at;
    declared = each_of (λ (i : TokenId). IsServer roster i.server) g.ids
        (λ i j. subst (IsServer roster) (sym (t.issued i j)) t.declared);
    issued = λ e. each_of (λ (i : TokenId). i.server ≡ y.server) g.ids (λ i j. t.issued i j ∙ at);
    bytes = t.bytes;
    size = t.size;
    ends = t.ends;
  }

  fetch_body : (f : FetchOf) → IsTidyFetch roster f → home f.fid.fileset ≡ y.server → IsFetch y f
  fetch_body f t at = record {
    number = t.from;
    home = λ e. at_home f.fid.fileset y.server at;
    file = each_of (λ (n : Need). n.fid ≡ f.fid) f.needs (λ n i. (t.needs n i).0);
    kinds = each_of (λ (n : Need). IsFetched n.kind) f.needs (λ n i. (t.needs n i).1);
    room = each_of (λ (n : Need). HasRoom n.kind) f.needs (λ n i. (t.needs n i).2);
    count = t.count;
  }

  change_body : (c : ChangeOf) → IsTidyChange roster y.server c → IsChange roster y c
  change_body c t = record {
    number = t.from;
    fileset = elim t.numbered [ inl z ↦ inl z | inr at ↦ inr (λ e. at_home c.fileset y.server at) ];
    call = t.call;
    decided = t.decided;
  }

  claim_body : (claim : ReclaimOf) → ClaimFrom m y.server claim → IsClaim y claim
  claim_body claim from = record {
    tokens = each_of (IsToken y) claim.tokens (λ t i. let k = its t i in record {
      host = k.host_is ∙ sym out.host_is;
      server = (from.only t i).0.0;
      room = k.room;
    });
    earlier = each_of (λ (t : Token). t.id.epoch < y.epoch) claim.tokens
        (λ t i. let l = (from.only t i).0.1 in let e = out.epoch_is in omega (arith, l, e));
    moves = each_of (λ (t : Token). Numbers claim.numbers t.fid.fileset) claim.tokens
        (λ t i. let o = from.numbers t i in in_numbers o.0 claim.numbers t.fid.fileset o.1 o.2);
  }
    where
      its : (t : Token) → In t claim.tokens → IsTidyToken roster m.host t
      its t i = elim (from.only t i).1 [
        | inl h ↦ tidy.held t h
        | inr z ↦ subst (IsTidyToken roster m.host) z.2 (tidy.leaving z.0 z.1)
      ]

  named_body : (w : Named) → home w.fid.fileset ≡ y.server → ((i : TokenId) → In i w.ids → i.server ≡ y.server)
      → AreNamed y w.fid w.ids
  named_body w at issued = record {
    home = λ e. at_home w.fid.fileset y.server at;
    issued = each_of (λ (i : TokenId). i.server ≡ y.server) w.ids issued;
  }

  -- a message with this body
  with_body : (b : Body) → y.body ≡ b → IsServer roster y.server → Goes b ToServer → HasMoves b 0 → IsBody roster y b
      → IsSound roster y
  with_body b e declared goes moves body = sound_by declared (subst (λ (z : Body). Goes z ToServer) (sym e) goes)
      (subst (λ (z : Body). HasMoves z 0) (sym e) moves) (subst (IsBody roster y) (sym e) body)

  again : (x : Moved) (past : List Step) (s : Step) → IsServer roster y.server → (b : Body) → y.body ≡ b
      → SaysAgain m x past s y.server b → IsSound roster y
  again x past s known b e OfHello = with_body Hello e known refl refl tt
  again x past s known b e (OfGive g first at) =
      with_body (GiveBack g) e known refl tt
      (give_body g (tidy.gives first.message g first.within first.body) at)
  again x past s known b e (OfFetch f r at) = with_body (Fetch f) e known refl tt
      (fetch_body f (tidy.fetch f r) at)
  again x past s known b e (OfChange c r) =
      with_body (Change c) e known refl tt (change_body c (tidy.change y.server c r))
  again x past s known b e (OfClaim claim from same why) =
      with_body (Reclaim claim) e known refl refl (claim_body claim from)
  again x past s known b e (OfBye r) = with_body Bye e known (inl refl) refl tt

  held_issued : (v : ServerId) (t : Token) (fid : Fid) → In t (held_of m) → t.fid ≡ fid → home fid.fileset ≡ v
      → t.id.server ≡ v
  held_issued v t fid i same at = (tidy.held t i).issued ∙ (ap (λ (f : Fid). home f.fileset) same ∙ at)

  left : (l : Left) (s : Step) → IsTidy roster (with_left m l) → IsServer roster y.server → (b : Body) → y.body ≡ b
      → SaysLeft m l s y.server b → IsSound roster y
  left l s after known b e (OfReturned w at ids file) = with_body (Returned w) e known refl tt
      (named_body w at (λ i j.
      let r = (ids i j).0 in
      let t : Token = r.0.token in
      let h = map_in (λ (h : Held). h.token) m.cache.held r.0 r.1 in
      sym (ap (λ (k : TokenId). k.server) r.2)
      ∙ held_issued y.server t w.fid h (file t h (subst (λ (k : TokenId). In k w.ids) (sym r.2) j)) at))
  left l s after known b e (OfGiven g first at) = with_body (GiveBack g) e known refl tt
      (give_body g (after.gives first.message g first.within first.body) at)

  revoked : (l : Left) (r : RevokeOf) (made : List Give) → IsTidy roster (with_left m l) → IsServer roster y.server
      → ((i : TokenId) → In i r.ids → i.server ≡ home r.fid.fileset) → (b : Body) → y.body ≡ b
      → ((w : Named) (i : TokenId) → b ≡ Returned w → In i w.ids
      → ((t : Token) × In t (held_of m) × (t.id ≡ i)) ⊎ (w.fid ≡ r.fid))
      → SaysRevoked m l r made y.server b → IsSound roster y
  revoked l r made after known named b e of (BackReturned w at ok file) =
      with_body (Returned w) e known refl tt
      (named_body w at (λ i j. elim (of w i refl j) [
        | inl t ↦ sym (ap (λ (z : TokenId). z.server) t.2)
            ∙ held_issued y.server t.0 w.fid t.1 (file t.0 t.1 (subst (λ (z : TokenId). In z w.ids) (sym t.2) j)) at
        | inr same ↦ named i (ok i j).0 ∙ (ap (λ (f : Fid). home f.fileset) (sym same) ∙ at)
      ]))
  revoked l r made after known named b e of (BackKept w at ok file) =
      with_body (KeptBody w) e known refl tt
      (named_body w at (λ i j.
      let h = (ok i j).1 in
      let k = map_in (λ (h : Held). h.token) m.cache.held h.0 h.1 in
      sym (ap (λ (z : TokenId). z.server) h.2)
      ∙ held_issued y.server h.0.token w.fid k (file h.0.token k (subst (λ (z : TokenId). In z w.ids) (sym h.2) j)) at))
  revoked l r made after known named b e of (BackGiven g first at) =
      with_body (GiveBack g) e known refl tt
      (give_body g (after.gives first.message g first.within first.body) at)

-- a server by its number
server_of : (fs : FilesetId) (v : ServerId) → fs.0 / 65536 ≡ v.0 → home fs ≡ v
server_of fs v e = let p = sym (home_number fs) ∙ e in λ i. record { 0 = p i }

pub again_sound : AgainSound
again_sound roster m x past s y tidy out known why = again roster m y tidy out x past s known y.body refl why

pub left_sound : LeftSound
left_sound roster m l s y tidy after out known why = left roster m y tidy out l s after known y.body refl why

pub fetch_sound : FetchSound
fetch_sound roster m y f tidy out e at t =
    with_body roster m y tidy out (Fetch f) e (subst (IsServer roster) (sym at) t.declared) refl tt
    (fetch_body roster m y tidy out f t (sym at))

pub change_sound : ChangeSound
change_sound roster m y c tidy out e t =
    with_body roster m y tidy out (Change c) e t.declared refl tt (change_body roster m y tidy out c t)

pub revoked_sound : RevokedSound
revoked_sound roster m l message r made y tidy after sound is no_moves out known of why =
    let body : IsRevoke message r = subst (IsBody roster message) is sound.body in
    let at : home r.fid.fileset ≡ message.server = server_of r.fid.fileset message.server (body.named.home no_moves) in
    revoked roster m y tidy out l r made after known
    (λ i j. of_each (λ (k : TokenId). k.server ≡ message.server) r.ids body.named.issued i j ∙ sym at) y.body
    refl of why

le_by : {a b c : ℕ} → a ≤ c → b ≡ a → b ≤ c
le_by l e = omega (arith, l, e)

pub tidy_stays : TidyStays
tidy_stays roster m new tidy after = record {
  host = subst (IsHost roster) (sym after.host_is) tidy.host;
  some = tidy.some;
  few = tidy.few;
  servers = after.servers ∙ tidy.servers;
  held = λ t i. subst (λ (h : HostId). IsTidyToken roster h t) (sym after.host_is)
      (elim (after.held t i) [ inl j ↦ tidy.held t j | inr k ↦ k ]);
  sizes = λ fid. elim (after.sizes fid) [ inl e ↦ le_by (tidy.sizes fid) e | inr l ↦ l ];
  leaving = λ y i. subst (λ (h : HostId). IsTidyToken roster h y.token) (sym after.host_is)
      (elim (after.leaving y i) [ inl j ↦ tidy.leaving y j | inr k ↦ tidy.held y.token k ]);
  gives = λ y g i e. elim (after.gives y g i e) [ inl j ↦ tidy.gives y g j e | inr k ↦ k ];
  fetch = λ f e. elim (after.fetch f e) [ inl j ↦ tidy.fetch f j | inr k ↦ k ];
  change = λ v c e. elim (after.change v c e) [ inl j ↦ tidy.change v c j | inr k ↦ k ];
  call = λ c e. elim (after.call c e) [ inl j ↦ tidy.call c j | inr k ↦ k ];
  homes = λ h i. elim (after.homes h i) [ inl j ↦ tidy.homes h j | inr k ↦ k ];
  floors = λ f i. elim (after.floors f i) [ inl j ↦ tidy.floors f j | inr k ↦ k ];
}

-- what an answer brings
brought : (roster : Roster) (message : Message) (w : Bring) → IsServer roster message.server → Brings message w
    → message.moves ≡ 0
    → (t : Token) → In t w.tokens → IsTidyToken roster message.host t
brought roster message w declared brings no_moves t i =
    let k = of_each (IsBrought message w.fid) w.tokens brings.tokens t i in
    let at : home t.fid.fileset ≡ message.server =
    ap (λ (f : Fid). home f.fileset) k.file ∙ server_of w.fid.fileset message.server (by_some w.tokens refl i) in
    record {
      host_is = k.own.host;
      issued = k.own.server ∙ sym at;
      declared = subst (IsServer roster) (sym at) declared;
      room = k.own.room;
    }
  where
    by_some : (ts : List Token) → w.tokens ≡ ts → In t ts → w.fid.fileset.0 / 65536 ≡ message.server.0
    by_some [] e j = elim j [ ]
    by_some (z ∷ ts) e j = brings.home z ts e no_moves

pub grant_tidy : GrantTidy
grant_tidy roster message g sound is no_moves t i =
    let body : IsGrant message g = subst (IsBody roster message) is sound.body in
    brought roster message g.bring sound.server body.brings no_moves t i

pub done_tidy : DoneTidy
done_tidy roster message d sound is no_moves t i =
    let body : IsDone roster message d = subst (IsBody roster message) is sound.body in
    brought roster message d.bring sound.server body.brings no_moves t i

pub tidy_first : TidyFirst
tidy_first roster m host some few servers none_held none_leaving none_given idle none_open none_entered none_raised =
    record {
      host = host;
      some = some;
      few = few;
      servers = servers;
      held = λ t i. absurd (none_in (tokens_of m.cache.held) (ap tokens_of none_held) t i);
      sizes = λ fid.
          let e : content m.cache fid Size ≡ 0 =
          ap (λ (held : List Held). option_map_or (λ (status : StatusOf). status.length)
          (if tells held fid then (file_at m.cache fid).status else None) 0) none_held in
          omega (arith, e);
      leaving = λ y i. absurd (none_in m.leaving none_leaving y i);
      gives = λ y g i e. absurd (none_in m.gives.gives none_given y i);
      fetch = λ f e. absurd (let p = sym idle ∙ e in cc);
      change = λ v c e. absurd (let p = sym idle ∙ e in cc);
      call = λ c e. absurd (let p = sym none_open ∙ e in cc);
      homes = λ h i. absurd (none_in m.homes none_entered h i);
      floors = λ f i. absurd (none_in m.floors none_raised f i);
    }
