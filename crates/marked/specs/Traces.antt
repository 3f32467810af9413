-- Reading records, the order of a trace, and where a replay stops. Assumes nothing.
use Rattle.std.specs.Prelude.{List, [], ◌∷◌, ◌++◌, ℕ, ◌+◌, replicate}
use Rattle.model.specs.declared.Event.TheVariants.{Elapse}
use Rattle.trace.specs.declared.Record.{Record}
use Rattle.trace.specs.declared.Record.TheVariants.{Counts, Reservation, Happening}
use Rattle.trace.specs.Reading.{got, ended, fault}
use Rattle.trace.specs.Order.{file_limit}
use Rattle.marked.specs.Trace.{line, table_of, wake, suspend, dispatch, preempt, recharge, lock, unlock, counts_bytes, entry_bytes, event_bytes, trace_of}
use Rattle.marked.specs.Example.{Example, prints, reads}
use Rattle.marked.specs.Marked.{table_closing}

-- a file that is one record, and what is read from it; the next place is the file's end
abbrev pub holds : List ℕ → ℕ → Record → Example
holds file end r = reads file 0 (got r (record { at = end }))

-- a file whose first record is faulty
abbrev pub faulty : List ℕ → ℕ → Example
faulty file n = reads file 0 (fault n)

-- the table of one task: counts, then Q 2, P 20 and no resource (10 bytes, then 14)
abbrev pub one_task : List ℕ
one_task = trace_of (table_of 1 0 (line 2 20 0 ∷ [])) []

abbrev pub traces : List Example
traces =
    -- each kind, byte by byte, the low byte first
    holds (4 ∷ 0 ∷ 1 ∷ 0 ∷ 3 ∷ 1 ∷ []) 6 (Happening (wake 259))
    ∷ holds (4 ∷ 0 ∷ 2 ∷ 0 ∷ 3 ∷ 0 ∷ []) 6 (Happening (suspend 3))
    ∷ holds (4 ∷ 0 ∷ 3 ∷ 0 ∷ 3 ∷ 0 ∷ []) 6 (Happening (dispatch 3))
    ∷ holds (4 ∷ 0 ∷ 4 ∷ 0 ∷ 3 ∷ 0 ∷ []) 6 (Happening (preempt 3))
    ∷ holds (6 ∷ 0 ∷ 5 ∷ 0 ∷ 1 ∷ 2 ∷ 3 ∷ 4 ∷ []) 8 (Happening (Elapse 67305985))
    ∷ holds (4 ∷ 0 ∷ 6 ∷ 0 ∷ 3 ∷ 0 ∷ []) 6 (Happening (recharge 3))
    ∷ holds (6 ∷ 0 ∷ 7 ∷ 0 ∷ 3 ∷ 0 ∷ 2 ∷ 0 ∷ []) 8 (Happening (lock 3 2))
    ∷ holds (6 ∷ 0 ∷ 8 ∷ 0 ∷ 3 ∷ 0 ∷ 2 ∷ 0 ∷ []) 8 (Happening (unlock 3 2))
    ∷ holds (8 ∷ 0 ∷ 16 ∷ 0 ∷ 2 ∷ 0 ∷ 3 ∷ 0 ∷ 1 ∷ 0 ∷ []) 10 (Counts 2 3 1)
    ∷ holds (12 ∷ 0 ∷ 17 ∷ 0 ∷ 10 ∷ 0 ∷ 0 ∷ 0 ∷ 64 ∷ 66 ∷ 15 ∷ 0 ∷ 5 ∷ 1 ∷ []) 14 (Reservation (line 10 1000000 261))
    -- a record at a later place, and the file's end
    ∷ reads (event_bytes (wake 1) ++ event_bytes (lock 0 1)) 6 (got (Happening (lock 0 1)) (record { at = 14 }))
    ∷ reads (event_bytes (wake 1)) 6 ended
    ∷ reads [] 0 ended
    -- 30: one byte; a length with nothing after it; a kind cut in two; a body cut short, also of an unknown kind
    ∷ faulty (4 ∷ []) 30
    ∷ faulty (4 ∷ 0 ∷ []) 30
    ∷ faulty (4 ∷ 0 ∷ 1 ∷ []) 30
    ∷ faulty (4 ∷ 0 ∷ 1 ∷ 0 ∷ 3 ∷ []) 30
    ∷ faulty (4 ∷ 0 ∷ 99 ∷ 0 ∷ 3 ∷ []) 30
    -- 31: a length below 2, though what it counts is cut short too
    ∷ faulty (0 ∷ 0 ∷ []) 31
    ∷ faulty (1 ∷ 0 ∷ []) 31
    -- unknown kinds at both ends of the known ones, and one whose low byte is known
    ∷ faulty (2 ∷ 0 ∷ 0 ∷ 0 ∷ []) 31
    ∷ faulty (4 ∷ 0 ∷ 9 ∷ 0 ∷ 3 ∷ 0 ∷ []) 31
    ∷ faulty (8 ∷ 0 ∷ 15 ∷ 0 ∷ 2 ∷ 0 ∷ 3 ∷ 0 ∷ 1 ∷ 0 ∷ []) 31
    ∷ faulty (4 ∷ 0 ∷ 18 ∷ 0 ∷ 3 ∷ 0 ∷ []) 31
    ∷ faulty (4 ∷ 0 ∷ 1 ∷ 1 ∷ 3 ∷ 0 ∷ []) 31
    -- a known kind with too short and too long a body
    ∷ faulty (2 ∷ 0 ∷ 1 ∷ 0 ∷ []) 31
    ∷ faulty (6 ∷ 0 ∷ 1 ∷ 0 ∷ 3 ∷ 0 ∷ 0 ∷ 0 ∷ []) 31
    ∷ faulty (4 ∷ 0 ∷ 5 ∷ 0 ∷ 3 ∷ 0 ∷ []) 31
    -- 32: nothing; an event or a task's line first; an event before the last line, at its own offset; the table cut off, at the file's length
    ∷ prints [] "stop 0 32\n"
    ∷ prints (event_bytes (wake 0)) "stop 0 32\n"
    ∷ prints (entry_bytes (line 2 20 0)) "stop 0 32\n"
    ∷ prints (counts_bytes 1 2 0 ++ entry_bytes (line 2 20 0) ++ event_bytes (wake 0)) "stop 24 32\n"
    ∷ prints (counts_bytes 1 2 0) "stop 10 32\n"
    ∷ prints (counts_bytes 1 2 0 ++ entry_bytes (line 2 20 0)) "stop 24 32\n"
    -- counts or a line once more, whatever their numbers; what was printed stays
    ∷ prints (counts_bytes 1 2 0 ++ counts_bytes 0 0 0) "stop 10 32\n"
    ∷ prints (one_task ++ counts_bytes 0 0 0) "stop 24 32\n"
    ∷ prints (one_task ++ event_bytes (wake 0) ++ entry_bytes (line 0 0 0)) "1 ok 1\nstop 30 32\n"
    -- a faulty record is told before it is out of order, a stray byte before an unfinished table
    ∷ prints (1 ∷ 0 ∷ []) "stop 0 31\n"
    ∷ prints (counts_bytes 1 2 0 ++ 4 ∷ []) "stop 10 30\n"
    ∷ prints (one_task ++ event_bytes (wake 0) ++ 1 ∷ 0 ∷ 4 ∷ []) "1 ok 1\nstop 30 31\n"
    -- 19 to 21 where the counts or the task's line stands, before any later fault
    ∷ prints (counts_bytes 9 1 0 ++ 1 ∷ []) "stop 0 19\n"
    ∷ prints (counts_bytes 1 2 0 ++ entry_bytes (line 2 20 0) ++ entry_bytes (line 3 2 1) ++ 1 ∷ []) "stop 24 20\n"
    ∷ prints (counts_bytes 1 1 0 ++ entry_bytes (line 2 20 1) ++ 1 ∷ []) "stop 10 21\n"
    -- a table and no event; operands past the counts are the event's refusal
    ∷ prints one_task "end 0\nserver 0 idle 2 0 0 0 0\ntask 0 0\n"
    ∷ prints (one_task ++ event_bytes (wake 65535)) "1 refused 2\nend 0\nserver 0 idle 2 0 0 0 0\ntask 0 0\n"
    -- after 62 stands the awaited resource, and nothing after any other number
    ∷ prints (trace_of table_closing (wake 0 ∷ dispatch 0 ∷ lock 0 0 ∷ wake 1 ∷ dispatch 1 ∷ lock 1 1 ∷ lock 0 1 ∷ suspend 0 ∷ []))
    "1 ok 1\n2 executes 0\n3 granted 0\n4 ok 1\n5 executes 1\n6 granted 1\n7 waits 1\n8 refused 62 1\nend 0\nserver 0 running 10 20 0 0 0\nserver 1 running 10 20 0 0 0\ntask 0 0\ntask 1 0\n"
    -- 33: one byte too many; as many as there may be are read
    ∷ prints (replicate (file_limit + 1) 0) "stop 0 33\n"
    ∷ prints (replicate file_limit 0) "stop 0 31\n"
    ∷ []
