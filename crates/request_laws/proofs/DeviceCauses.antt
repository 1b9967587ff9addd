-- What an event of the device leaves of the places of a host's tag.
use Rattle.std.proofs.Common.{◌≡◌, ℕ, ◌+◌, Bool, true, false, List, [], ◌∷◌, ◌++◌, Option, Some, None, count_by, refl, sym, ◌∙◌, ap, subst, arith, append-nil}
use Rattle.std.specs.Prelude.{option_and_then, ◌||◌}
use Rattle.std.specs.List.{list_any}
use Rattle.std.proofs.lemmas.Bool.{false≢true}
use Rattle.std.proofs.lemmas.Option.{none-some}
use Rattle.cxl_message.specs.declared.channels.Channel.{Channel}
use Rattle.cxl_message.specs.declared.events.Act.{Act}
use Rattle.cxl_message.specs.declared.events.Cause.{Cause}
use Rattle.cxl_message.specs.declared.events.Event.{Event}
use Rattle.cxl_message.specs.declared.events.Sends.{Sends}
use Rattle.cxl_message.specs.declared.identifiers.Bytes64.{Bytes64}
use Rattle.cxl_message.specs.declared.identifiers.Line.{Line}
use Rattle.cxl_message.specs.declared.messages.Message.{Message}
use Rattle.cxl_message.specs.Messages.{has_tag, line_in, message_eq}
use Rattle.cxl_message.specs.Setup.{Configuration}
use Rattle.coherence_model.specs.Buffers.{buffered_requests, buffered_writes, message_with, requests_after, writes_after}
use Rattle.coherence_model.specs.DeviceActs.{request_in, snoop_message}
use Rattle.coherence_model.specs.DeviceRows.{device_emission}
use Rattle.coherence_model.specs.Directory.{Directory}
use Rattle.coherence_model.specs.DirectoryChanges.{directory, directory_after, directory_after_clean, directory_after_serve, directory_after_take}
use Rattle.coherence_model.specs.Emission.{Emission}
use Rattle.coherence_model.specs.Flight.{takes_on, without_taken}
use Rattle.coherence_model.specs.RequestFacts.{grants, is_ndr_with}
use Rattle.coherence_model.specs.Tasks.{Task}
use Rattle.coherence_model.specs.Transactions.{Transaction}
use Rattle.coherence_model.specs.Words.{with_last}
use Rattle.coherence_model.specs.WriteBacks.{completes}
use Rattle.coherence_lemmas.proofs.DeviceActs.{v3_serve-inv, v4_clean-inv, v5_start-inv, v6_evict-inv, v7_snoop-inv, v8_finish-inv, v9_return-inv}
use Rattle.cxl_message.proofs.SameMessages.{message_eq-same}
use Rattle.coherence_lemmas.proofs.Rows.{device_take-inv}
use Rattle.coherence_lemmas.proofs.TakesSendNothing.{device_takes_silent}
use Rattle.request_laws.proofs.Balances.{balance_as}
use Rattle.request_laws.proofs.Counts.{count_by-append, count_by-cons}
use Rattle.request_laws.proofs.DevicePlaces.{ActAfter, clean_places, serve_places, silent_one, unmoved}
use Rattle.request_laws.proofs.DeviceTasks.{evict_places, finish_places, start_places}
use Rattle.request_laws.proofs.Each.{Each, each_with_last, each_without_taken}
use Rattle.request_laws.proofs.HostPlaces.{Taken, credit_off_drs, credit_off_ndr}
use Rattle.request_laws.proofs.Places.{Here, OwnRequest, OwnWrite, is_write_of, on_channel}

-- what is taken goes from flight into the buffer
pub moved_count : (p : Message → Bool) (x : Option Message) (ms ns : List Message) → Taken x ms → count_by p (without_taken x ms) + count_by p (with_last x ns) ≡ count_by p ms + count_by p ns
moved_count p None ms ns taken = refl
moved_count p (Some m) ms ns taken =
    let gone = taken p in
    let joined = count_by-append p ns (m ∷ []) in
    let one = count_by-cons p m [] in
    omega arith

-- what holds of each message holds of one that is there
there_by : (P : Message → Type 0) (m n : Message) (ns : List Message) (same : Bool) → message_eq m n ≡ same → P n → (same || list_any (message_eq m) ns) ≡ true → (list_any (message_eq m) ns ≡ true → P m) → P m
there_by P m n ns true is head some later = subst P (sym (message_eq-same m n is)) head
there_by P m n ns false is head some later = later some

pub each_there : (P : Message → Type 0) (m : Message) (ns : List Message) → Each P ns → list_any (message_eq m) ns ≡ true → P m
each_there P m [] h some = absurd (false≢true some)
each_there P m (n ∷ ns) h some = there_by P m n ns (message_eq m n) refl h.0 some (each_there P m ns h.1)

-- what is taken was in flight
abbrev pub WasThere : Option Message → List Message → Type 0
WasThere x ms = (m : Message) → x ≡ Some m → list_any (message_eq m) ms ≡ true

taken_places :
    (h tag : ℕ) (o : Option Transaction) (a : Option ℕ) (b : ℕ) (fr hr fw hw ndr drs : List Message) (task : ℕ → Option Task) (x y : Option Message)
    → Taken x fr → Taken y fw → WasThere x fr → WasThere y fw
    → Here h tag o a b fr hr fw hw ndr drs task → Here h tag o a b (without_taken x fr) (with_last x hr) (without_taken y fw) (with_last y hw) (ndr ++ []) (drs ++ []) task
taken_places h tag o a b fr hr fw hw ndr drs task x y xs ys there_x there_y inv = record {
  balanced =
      balance_as o refl (sym (moved_count (has_tag tag) x fr hr xs)) (sym (moved_count (is_write_of tag) y fw hw ys)) (ap (count_by (is_ndr_with completes tag)) (sym (append-nil ndr)))
      (ap (count_by (is_ndr_with grants tag)) (sym (append-nil ndr))) (ap (count_by (has_tag tag)) (sym (append-nil drs))) refl inv.balanced;
  flying_requests = each_without_taken (OwnRequest tag o a) x fr inv.flying_requests;
  held_requests = each_with_last (OwnRequest tag o a) x hr (λ m is. each_there (OwnRequest tag o a) m fr inv.flying_requests (there_x m is)) inv.held_requests;
  flying_writes = each_without_taken (OwnWrite tag o a) y fw inv.flying_writes;
  held_writes = each_with_last (OwnWrite tag o a) y hw (λ m is. each_there (OwnWrite tag o a) m fw inv.flying_writes (there_y m is)) inv.held_writes;
  tasks = inv.tasks;
}

-- a take, a served message and a cleaned one change no task
take_task : (setup : Configuration) (k : ℕ) (m : Message) (dev : List Event) (D : Directory) → (directory_after_take setup k m dev D).task ≡ D.task
take_task setup k (Message.Req _ _ _ _ _) dev D = refl
take_task setup k (Message.MemWr _ _ _ _ _) dev D = refl
take_task setup k (Message.BiConflict _) dev D = refl
take_task setup k (Message.BiRsp _ _ _) dev D = refl
take_task setup k (Message.Ndr _ _) dev D = refl
take_task setup k (Message.MemData _ _) dev D = refl
take_task setup k (Message.BiSnp _ _ _ _) dev D = refl
take_task setup k (Message.Credit _) dev D = refl

serve_task : (setup : Configuration) (k : ℕ) (x : Option Message) (D : Directory) → (directory_after_serve setup k x D).task ≡ D.task
serve_task setup k None D = refl
serve_task setup k (Some (Message.Req _ _ _ _ _)) D = refl
serve_task setup k (Some (Message.MemWr _ _ _ _ _)) D = refl
serve_task setup k (Some (Message.BiConflict _)) D = refl
serve_task setup k (Some (Message.BiRsp _ _ _)) D = refl
serve_task setup k (Some (Message.Ndr _ _)) D = refl
serve_task setup k (Some (Message.MemData _ _)) D = refl
serve_task setup k (Some (Message.BiSnp _ _ _ _)) D = refl
serve_task setup k (Some (Message.Credit _)) D = refl

clean_task : (setup : Configuration) (k : ℕ) (x : Option ℕ) (D : Directory) → (directory_after_clean setup k x D).task ≡ D.task
clean_task setup k None D = refl
clean_task setup k (Some l) D = refl

module _ (setup : Configuration) (opening : List (Line × Bytes64)) (h tag : ℕ) (o : Option Transaction) (a : Option ℕ) (b : ℕ) (dev : List Event) (fr fw ndr drs : List Message)
    (inv : Here h tag o a b fr (buffered_requests h dev) fw (buffered_writes h dev) ndr drs (directory setup dev).task) where
  -- the places after an event of the device
  abbrev pub DeviceAfter : Cause → Sends → Type 0
  DeviceAfter cause sends =
      Here h tag o a b (without_taken (takes_on h Channel.Req cause) fr) (requests_after h cause (buffered_requests h dev)) (without_taken (takes_on h Channel.Rwd cause) fw) (writes_after h cause (buffered_writes h dev))
      (ndr ++ on_channel h Channel.Ndr sends) (drs ++ on_channel h Channel.Drs sends) (directory_after setup cause sends dev (directory setup dev)).task

  -- with the tasks as they were
  same_tasks : (act : Act) (sends : Sends) (task : ℕ → Option Task) → task ≡ (directory setup dev).task → ActAfter h tag o a b act sends dev fr fw ndr drs (directory setup dev).task → ActAfter h tag o a b act sends dev fr fw ndr drs task
  same_tasks act sends task same after = subst (ActAfter h tag o a b act sends dev fr fw ndr drs) (sym same) after

  act_places : (act : Act) (sends : Sends) (w : Emission) → device_emission setup opening (Cause.Act act) dev ≡ Some w → sends ≡ w.sends → DeviceAfter (Cause.Act act) sends
  act_places (Act.Conflict line) sends w row sent = absurd (none-some w row)
  act_places (Act.WriteBack line) sends w row sent = absurd (none-some w row)
  act_places (Act.Answer line) sends w row sent = absurd (none-some w row)
  act_places (Act.AnswerBlock line) sends w row sent = absurd (none-some w row)
  act_places (Act.HostReturn c) sends w row sent = absurd (none-some w row)
  act_places (Act.Serve k t) sends w row sent =
      same_tasks (Act.Serve k t) sends _ (serve_task setup k (message_with t.0 (buffered_writes k dev)) (directory setup dev))
      (serve_places h tag o a b k t sends dev fr fw ndr drs (directory setup dev).task w (v3_serve-inv k (message_with t.0 (buffered_writes k dev)) w row) sent inv)
  act_places (Act.Clean k t) sends w row sent =
      same_tasks (Act.Clean k t) sends _ (clean_task setup k (option_and_then line_in (message_with t.0 (buffered_requests k dev))) (directory setup dev))
      (clean_places h tag o a b k t sends dev fr fw ndr drs (directory setup dev).task (directory setup dev) w
      (v4_clean-inv k (option_and_then request_in (message_with t.0 (buffered_requests k dev))) (directory setup dev) w row) sent inv)
  act_places (Act.Start k t) sends w row sent =
      start_places setup h tag o a b dev fr fw ndr drs (directory setup dev) inv k t sends w
      (v5_start-inv setup k (option_and_then request_in (message_with t.0 (buffered_requests k dev))) (directory setup dev) dev w row) sent
  act_places (Act.Evict k t) sends w row sent =
      evict_places setup h tag o a b dev fr fw ndr drs (directory setup dev) inv k t sends w (option_and_then request_in (message_with t.0 (buffered_requests k dev)))
      (v6_evict-inv setup k (option_and_then request_in (message_with t.0 (buffered_requests k dev))) (directory setup dev) dev w row) sent
  act_places (Act.Snoop k line) sends w row sent =
      let snoop = v7_snoop-inv k line.0 ((directory setup dev).task line.0) (directory setup dev) dev w row in
      unmoved h tag o a b fr (buffered_requests h dev) fw (buffered_writes h dev) ndr drs (directory setup dev).task (directory setup dev).task sends
      (silent_one h tag k (snoop_message line.0 snoop.t) sends (sent ∙ ap (λ (x : Emission). x.sends) snoop.emits) refl refl) refl (λ l t there its. there) inv
  act_places (Act.Finish line) sends w row sent =
      finish_places setup opening h tag o a b dev fr fw ndr drs (directory setup dev) inv line.0 sends w (v8_finish-inv setup opening line.0 ((directory setup dev).task line.0) (directory setup dev) dev w row) sent
  act_places (Act.DeviceReturn k c) sends w row sent =
      let back = v9_return-inv k c dev w row in
      unmoved h tag o a b fr (buffered_requests h dev) fw (buffered_writes h dev) ndr drs (directory setup dev).task (directory setup dev).task sends
      (silent_one h tag k (Message.Credit c) sends (sent ∙ ap (λ (x : Emission). x.sends) back.emits) (credit_off_ndr c) (credit_off_drs c)) refl (λ l t there its. there) inv

  take_places_there : (k : ℕ) (m : Message) (sends : Sends) (w : Emission) → device_emission setup opening (Cause.Take k m) dev ≡ Some w → sends ≡ w.sends
      → Taken (takes_on h Channel.Req (Cause.Take k m)) fr → Taken (takes_on h Channel.Rwd (Cause.Take k m)) fw
      → WasThere (takes_on h Channel.Req (Cause.Take k m)) fr → WasThere (takes_on h Channel.Rwd (Cause.Take k m)) fw → DeviceAfter (Cause.Take k m) sends
  take_places_there k m sends w row sent rs ws there_r there_w =
      let none = sent ∙ device_takes_silent setup k m dev w (device_take-inv setup opening k m dev w row).same in
      subst (DeviceAfter (Cause.Take k m)) (sym none)
      (subst (λ x. Here h tag o a b (without_taken (takes_on h Channel.Req (Cause.Take k m)) fr) (requests_after h (Cause.Take k m) (buffered_requests h dev)) (without_taken (takes_on h Channel.Rwd (Cause.Take k m)) fw)
      (writes_after h (Cause.Take k m) (buffered_writes h dev)) (ndr ++ []) (drs ++ []) x) (sym (take_task setup k m dev (directory setup dev)))
      (taken_places h tag o a b fr (buffered_requests h dev) fw (buffered_writes h dev) ndr drs (directory setup dev).task (takes_on h Channel.Req (Cause.Take k m)) (takes_on h Channel.Rwd (Cause.Take k m)) rs ws there_r there_w inv))

  pub device_places : (cause : Cause) (sends : Sends) (w : Emission) → device_emission setup opening cause dev ≡ Some w → sends ≡ w.sends
      → Taken (takes_on h Channel.Req cause) fr → Taken (takes_on h Channel.Rwd cause) fw → WasThere (takes_on h Channel.Req cause) fr → WasThere (takes_on h Channel.Rwd cause) fw → DeviceAfter cause sends
  device_places (Cause.Op s i op) sends w row sent rs ws there_r there_w = absurd (none-some w row)
  device_places (Cause.Take k m) sends w row sent rs ws there_r there_w = take_places_there k m sends w row sent rs ws there_r there_w
  device_places (Cause.Act act) sends w row sent rs ws there_r there_w = act_places act sends w row sent
