use Rattle.jl_top.proofs.Commands.{words_command, write_command}
use Rattle.jl_top.proofs.words.law_words.Goals as goal

pub returns-clause-read : goal.returns-clause-read
returns-clause-read c = words_command

pub returns-clause-write : goal.returns-clause-write
returns-clause-write c = write_command
