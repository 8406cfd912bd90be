use Rattle.std.proofs.Common.{String, Global, map, string_bytes}
use Rattle.llc_top.specs.Streams.{source_change, sink_change}
use Rattle.llc_top.proofs.Answering.{answer-no_err_fault, answer-no_out_fault, answer-read_fault, answer-words, answer-write_fault}
use Rattle.llc_top.proofs.Apart.{answer_headline}
use Rattle.llc_top.proofs.run.run_llc.Goals as goal

pub returns-clause-headline : goal.returns-clause-headline
returns-clause-headline g c =
    answer_headline (map (λ (word : String Global). string_bytes word) c.args.words.now)
    (source_change g.S.Source.left g.S.Source.faults c.args.src.now c.run_command.new.src)
    (sink_change g.O.Sink.written g.O.Sink.faults c.args.out.now c.run_command.new.out)
    (sink_change g.E.Sink.written g.E.Sink.faults c.args.err.now c.run_command.new.err)
    c.run_command.result c.run_command.ensures.answer

pub returns-clause-words : goal.returns-clause-words
returns-clause-words g c =
    answer-words (map (λ (word : String Global). string_bytes word) c.args.words.now)
    (source_change g.S.Source.left g.S.Source.faults c.args.src.now c.run_command.new.src)
    (sink_change g.O.Sink.written g.O.Sink.faults c.args.out.now c.run_command.new.out)
    (sink_change g.E.Sink.written g.E.Sink.faults c.args.err.now c.run_command.new.err)
    c.run_command.result c.run_command.ensures.answer

pub returns-clause-read_fault : goal.returns-clause-read_fault
returns-clause-read_fault g c =
    answer-read_fault (map (λ (word : String Global). string_bytes word) c.args.words.now)
    (source_change g.S.Source.left g.S.Source.faults c.args.src.now c.run_command.new.src)
    (sink_change g.O.Sink.written g.O.Sink.faults c.args.out.now c.run_command.new.out)
    (sink_change g.E.Sink.written g.E.Sink.faults c.args.err.now c.run_command.new.err)
    c.run_command.result c.run_command.ensures.answer

pub returns-clause-write_fault : goal.returns-clause-write_fault
returns-clause-write_fault g c =
    answer-write_fault (map (λ (word : String Global). string_bytes word) c.args.words.now)
    (source_change g.S.Source.left g.S.Source.faults c.args.src.now c.run_command.new.src)
    (sink_change g.O.Sink.written g.O.Sink.faults c.args.out.now c.run_command.new.out)
    (sink_change g.E.Sink.written g.E.Sink.faults c.args.err.now c.run_command.new.err)
    c.run_command.result c.run_command.ensures.answer

pub returns-clause-no_out_fault : goal.returns-clause-no_out_fault
returns-clause-no_out_fault g c =
    answer-no_out_fault (map (λ (word : String Global). string_bytes word) c.args.words.now)
    (source_change g.S.Source.left g.S.Source.faults c.args.src.now c.run_command.new.src)
    (sink_change g.O.Sink.written g.O.Sink.faults c.args.out.now c.run_command.new.out)
    (sink_change g.E.Sink.written g.E.Sink.faults c.args.err.now c.run_command.new.err)
    c.run_command.result c.run_command.ensures.answer

pub returns-clause-no_err_fault : goal.returns-clause-no_err_fault
returns-clause-no_err_fault g c =
    answer-no_err_fault (map (λ (word : String Global). string_bytes word) c.args.words.now)
    (source_change g.S.Source.left g.S.Source.faults c.args.src.now c.run_command.new.src)
    (sink_change g.O.Sink.written g.O.Sink.faults c.args.out.now c.run_command.new.out)
    (sink_change g.E.Sink.written g.E.Sink.faults c.args.err.now c.run_command.new.err)
    c.run_command.result c.run_command.ensures.answer
