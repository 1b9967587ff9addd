-- Beginnings that several worked traces have. Lists of events are oldest first.
use Rattle.std.specs.Prelude.{List, [], ◌++◌, ◌∷◌}
use Rattle.cxl_message.specs.declared.channels.Channel.{Channel}
use Rattle.cxl_message.specs.declared.events.Event.{Event}
use Rattle.worked_runs.specs.Vocabulary.{answer, begin, cmp_e, cmp_s, credit, dev, dev_sends, dev_sends_two, finish, give_back, give_back_to, host, host_commits, host_sends, load, mem_data, one_word, read_any, read_shared, rsp_shared, snoop, snp_data, start, take, word, zeros}

-- host 0 loads line 0, and then the credits go back
abbrev pub load_and_credits : List Event
load_and_credits =
    host_sends 0 (begin 0 0 (load 0)) (read_shared 0 0)
    ∷ dev (take 0 (read_shared 0 0))
    ∷ dev (start 0 0)
    ∷ dev_sends_two (finish 0) 0 (cmp_e 0) (mem_data 0 zeros)
    ∷ host 0 (take 0 (cmp_e 0))
    ∷ host_commits 0 (take 0 (mem_data 0 zeros)) 0 0 (load 0) zeros
    ∷ host_sends 0 (give_back Channel.Ndr) (credit Channel.Ndr)
    ∷ dev (take 0 (credit Channel.Ndr))
    ∷ host_sends 0 (give_back Channel.Drs) (credit Channel.Drs)
    ∷ dev (take 0 (credit Channel.Drs))
    ∷ dev_sends (give_back_to 0 Channel.Req) 0 (credit Channel.Req)
    ∷ host 0 (take 0 (credit Channel.Req))
    ∷ []

-- host 0 stores a word to line 0, and then the credits go back
abbrev pub store_and_credits : List Event
store_and_credits =
    host_sends 0 (begin 0 0 (word 0 0 1)) (read_any 0 0)
    ∷ dev (take 0 (read_any 0 0))
    ∷ dev (start 0 0)
    ∷ dev_sends_two (finish 0) 0 (cmp_e 0) (mem_data 0 zeros)
    ∷ host 0 (take 0 (cmp_e 0))
    ∷ host_commits 0 (take 0 (mem_data 0 zeros)) 0 0 (word 0 0 1) (one_word 1)
    ∷ host_sends 0 (give_back Channel.Ndr) (credit Channel.Ndr)
    ∷ dev (take 0 (credit Channel.Ndr))
    ∷ host_sends 0 (give_back Channel.Drs) (credit Channel.Drs)
    ∷ dev (take 0 (credit Channel.Drs))
    ∷ dev_sends (give_back_to 0 Channel.Req) 0 (credit Channel.Req)
    ∷ host 0 (take 0 (credit Channel.Req))
    ∷ []

-- hosts 0 and 1 load line 0, one after the other, and then the credits go back
abbrev pub sharing_and_credits : List Event
sharing_and_credits =
    load_and_credits
    ++ host_sends 1 (begin 1 0 (load 0)) (read_shared 0 0)
    ∷ dev (take 1 (read_shared 0 0))
    ∷ dev (start 1 0)
    ∷ dev_sends (snoop 0 0) 0 (snp_data 0)
    ∷ host 0 (take 0 (snp_data 0))
    ∷ host_sends 0 (answer 0) (rsp_shared 0 0)
    ∷ dev (take 0 (rsp_shared 0 0))
    ∷ host_sends 0 (give_back Channel.BiSnp) (credit Channel.BiSnp)
    ∷ dev (take 0 (credit Channel.BiSnp))
    ∷ dev_sends_two (finish 0) 1 (cmp_s 0) (mem_data 0 zeros)
    ∷ host 1 (take 1 (cmp_s 0))
    ∷ host_commits 1 (take 1 (mem_data 0 zeros)) 1 0 (load 0) zeros
    ∷ host_sends 1 (give_back Channel.Ndr) (credit Channel.Ndr)
    ∷ dev (take 1 (credit Channel.Ndr))
    ∷ host_sends 1 (give_back Channel.Drs) (credit Channel.Drs)
    ∷ dev (take 1 (credit Channel.Drs))
    ∷ dev_sends (give_back_to 0 Channel.BiRsp) 0 (credit Channel.BiRsp)
    ∷ host 0 (take 0 (credit Channel.BiRsp))
    ∷ dev_sends (give_back_to 1 Channel.Req) 1 (credit Channel.Req)
    ∷ host 1 (take 1 (credit Channel.Req))
    ∷ []
